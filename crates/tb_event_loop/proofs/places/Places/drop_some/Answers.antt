use Rattle.tb_event_loop.proofs.Sparing.{spares_stage, spares_then}
use Rattle.tb_event_loop.proofs.places.Places.drop_some.Goals as goal

pub returns-clause-spares : goal.returns-clause-spares
returns-clause-spares g c =
    spares_then c.args.place c.args.self.now c.drop_bytes.new.self c.set_stage.new.self c.drop_bytes.ensures.spares (spares_stage c.args.place c.drop_bytes.new.self c.set_stage.new.self _ c.set_stage.ensures)
