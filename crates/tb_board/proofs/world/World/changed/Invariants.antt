use Rattle.std.proofs.Common.{◌≡◌, drop}
use Rattle.tb_board.specs.Changing.{changed}
use Rattle.tb_board.proofs.world.World.changed.Given as goal

-- the changes that are left make of this world what all of them make of the first one
abbrev pub invariant-loop-change : goal.invariant-loop-change
invariant-loop-change l = changed l.world (drop l.change-index l.changes) ≡ changed l.fn.self l.changes
