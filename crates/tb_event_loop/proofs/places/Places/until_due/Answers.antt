use Rattle.tb_event_loop.proofs.Waiting.{until_later}
use Rattle.tb_event_loop.proofs.places.Places.until_due.Goals as goal

pub places-preserved : goal.places-preserved
places-preserved c =
    until_later c.args.self.now c.places.place c.args.now c.args.most c.places.wait c.until_at-wait.result c.places.invariant c.until_at-wait.ensures
