use Rattle.std.proofs.Common.{◌≡◌, drop}
use Rattle.tb_my.specs.Zone.{ahead_at, ahead_from}
use Rattle.tb_my.proofs.zone.ahead_at.Given as goal

abbrev pub invariant-loop-shift : goal.invariant-loop-shift
invariant-loop-shift l = ahead_from l.ahead (drop l.shift-index l.shifts) l.moment ≡ ahead_at l.shifts l.moment
