use Rattle.std.proofs.Common.{◌≡◌, drop}
use Rattle.tb_board.specs.Changing.{replayed}
use Rattle.tb_board.proofs.replaying.replayed.Given as goal

-- the changes that are left make of this board what all of them make of the first one
abbrev pub invariant-loop-change : goal.invariant-loop-change
invariant-loop-change l = replayed l.later (drop l.change-index l.changes) ≡ replayed l.board l.changes
