use Rattle.tb_event_loop.specs.Sharing.{LetsInBelow}
use Rattle.tb_event_loop.proofs.places.Places.let_all_in.Given as goal

-- the places so far were asked
abbrev pub invariant-loop-place : goal.invariant-loop-place
invariant-loop-place l = LetsInBelow l.place l.fn.self l.self
