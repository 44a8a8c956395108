use Rattle.std.proofs.Common.{add-one}
use Rattle.tb_event_loop.proofs.places.Places.let_all_in.Goals as goal

pub loop-place-preserved : goal.loop-place-preserved
loop-place-preserved c = rw add-one (c.loop-place.self, c.loop-place.invariant, c.let_in.ensures)
