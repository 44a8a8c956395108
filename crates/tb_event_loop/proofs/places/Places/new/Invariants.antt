use Rattle.std.proofs.Common.{◌≡◌, None, replicate}
use Rattle.tb_rooms.specs.Holding.{vacant_hold}
use Rattle.tb_timeouts.specs.declared.stage.Stage.TheVariants.{Vacant}
use Rattle.tb_event_loop.proofs.places.Places.new.Given as goal

-- so many vacant places so far
abbrev pub invariant-loop : goal.invariant-loop
invariant-loop l =
    (l.connections.items ≡ replicate l.counter None) × (l.stages.items ≡ replicate l.counter Vacant)
    × (l.holds.items ≡ replicate l.counter vacant_hold)
