use Rattle.tb_event_loop.specs.Places.{IsEndWithin, Vacates}
use Rattle.tb_event_loop.proofs.places.Places.vacate.Given as goal

-- the place is done with, and the end is before no connection
abbrev pub invariant-loop : goal.invariant-loop
invariant-loop l = Vacates l.fn.self l.self l.fn.place × IsEndWithin l.fn.self.end l.self
