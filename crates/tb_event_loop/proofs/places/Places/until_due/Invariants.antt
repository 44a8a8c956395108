use Rattle.tb_event_loop.specs.Places.{IsUntilDue}
use Rattle.tb_event_loop.proofs.places.Places.until_due.Given as goal

-- so long by the places so far
abbrev pub invariant-places : goal.invariant-places
invariant-places l = IsUntilDue l.self l.place l.now l.most l.wait
