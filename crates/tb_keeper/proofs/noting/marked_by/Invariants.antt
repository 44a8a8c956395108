use Rattle.std.proofs.Common.{◌≡◌, ◌++◌, drop}
use Rattle.tb_keeper.specs.Noting.{marks_by}
use Rattle.tb_keeper.proofs.noting.marked_by.Given as goal

-- the marks before the place are there
abbrev pub invariant-loop-place : goal.invariant-loop-place
invariant-loop-place l = l.mask ++ marks_by l.notes l.id l.place (drop l.place l.stored) ≡ marks_by l.notes l.id 0 l.stored
