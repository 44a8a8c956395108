use Rattle.std.proofs.Common.{◌≡◌, ℕ, ◌<◌, false}
use Rattle.tb_board.specs.Blocked.{is_held}
use Rattle.tb_board.proofs.blocked.holds_another.Given as goal

-- no earlier task depends on it
abbrev pub invariant-loop-other : goal.invariant-loop-other
invariant-loop-other l = (k : ℕ) → k < l.other → is_held l.tasks l.id l.place k ≡ false
