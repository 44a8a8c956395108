use Rattle.std.proofs.Common.{◌≡◌, ◌++◌, map, take}
use Rattle.tb_rows.specs.Rows.{link_row}
use Rattle.tb_rows.proofs.compared_links.push_links.Given as goal

abbrev pub invariant-loop-id : goal.invariant-loop-id
invariant-loop-id l = l.links ≡ l.fn.links ++ map (link_row l.board l.place) (take l.id-index l.task.depends)
