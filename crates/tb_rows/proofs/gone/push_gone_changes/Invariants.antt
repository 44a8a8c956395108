use Rattle.std.proofs.Common.{◌≡◌, ◌++◌, flat_map, take}
use Rattle.tb_rows.specs.Steps.{gone_changes}
use Rattle.tb_rows.proofs.gone.push_gone_changes.Given as goal

abbrev pub invariant-loop-change : goal.invariant-loop-change
invariant-loop-change l = l.rows ≡ l.fn.rows ++ flat_map (gone_changes l.board) (take l.change-index l.changes)
