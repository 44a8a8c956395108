use Rattle.std.proofs.Common.{◌∙◌, Some, ap, sym}
use Rattle.std.specs.Option.{option_map}
use Rattle.tb_event_loop.specs.Connection.{marked}
use Rattle.tb_event_loop.proofs.Hearing.{marked_at}
use Rattle.tb_event_loop.proofs.Sparing.{spares_lent}
use Rattle.tb_event_loop.proofs.places.Places.mark_at.Goals as goal

pub returns-in-Some-clause-same : goal.returns-in-Some-clause-same
returns-in-Some-clause-same c = let changed = rw c.in-Some.is at c.connection.follows.holds c.mark.new.connection in changed.1

pub returns-in-Some-clause-spares : goal.returns-in-Some-clause-spares
returns-in-Some-clause-spares c =
    let changed = rw c.in-Some.is at c.connection.follows.holds c.mark.new.connection in
    spares_lent c.args.place c.args.self.now _ c.mark.new.connection changed

pub returns-in-Some-clause-marks : goal.returns-in-Some-clause-marks
returns-in-Some-clause-marks c =
    let changed = rw c.in-Some.is at c.connection.follows.holds c.mark.new.connection in
    let was = rw c.in-Some.is at c.connection.ensures.value in
    marked_at c.args.place c.args.self.now _ _ c.mark.new.connection (sym was) changed
    ∙ ap Some c.mark.ensures ∙ ap (option_map (marked c.args.told.now)) was
