use Rattle.std.proofs.Common.{◌≡◌, ◌++◌, map, take}
use Rattle.tb_sql.specs.declared.changes.RowChange.TheVariants.{AddLink}
use Rattle.tb_rows.specs.Rows.{link_row}
use Rattle.tb_rows.proofs.tasks.push_links.Given as goal

abbrev pub invariant-loop-id : goal.invariant-loop-id
invariant-loop-id l = l.rows ≡ l.fn.rows ++ map AddLink (map (link_row l.board l.place) (take l.id-index l.task.depends))
