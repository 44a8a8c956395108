use Rattle.std.proofs.Common.{◌≡◌, ◌++◌, flat_map, take}
use Rattle.tb_rows.specs.Part.{single_changes}
use Rattle.tb_rows.proofs.part.push_singles.Given as goal

abbrev pub invariant-loop-change : goal.invariant-loop-change
invariant-loop-change l = l.rows ≡ l.fn.rows ++ flat_map (single_changes l.people) (take l.change-index l.changes)
