use Rattle.std.proofs.Common.{◌≡◌, [], IfOk, OnErr, subst}
use Rattle.tb_calls.specs.Call.{reply}
use Rattle.tb_calls.specs.Leaving.{StandsAfter}
use Rattle.tb_calls.specs.declared.call.Call.{Call}
use Rattle.tb_orders.specs.Doing.{made_of}
use Rattle.tb_orders.specs.Orders.{AsksFor, calls_made, ending_of, line_text}
use Rattle.tb_values.specs.Appends.{AppendsFront}
use Rattle.tb_orders.proofs.Inputs.{none_made}
use Rattle.tb_orders.proofs.importing.import_text.Goals as goal

pub returns-in-Ok-Call-clause-front : goal.returns-in-Ok-Call-clause-front
returns-in-Ok-Call-clause-front g c y s held call asks =
    let read = c.in-Ok-Call.ensures in
    let same : c.in-Ok-Call.call ≡ call = cc in
    let P : Call → Type 0 = λ made. OnErr c.make_call.result
    (AppendsFront (g.W.Write.contents c.args.writer.now) (g.W.Write.contents c.make_call.new.writer) (line_text (reply s [] made))) in
    subst P same (c.make_call.ensures.front y s held)

pub returns-in-Ok-Call-clause-ending : goal.returns-in-Ok-Call-clause-ending
returns-in-Ok-Call-clause-ending g c y s held call asks =
    let read = c.in-Ok-Call.ensures in
    let same : c.in-Ok-Call.call ≡ call = cc in
    let P : Call → Type 0 = λ made. IfOk c.make_call.result (λ ending. ending ≡ ending_of (reply s [] made)) in
    subst P same (c.make_call.ensures.ending y s held)

pub returns-in-Ok-Call-clause-unasked : goal.returns-in-Ok-Call-clause-unasked
returns-in-Ok-Call-clause-unasked g c none =
    let read = c.in-Ok-Call.ensures in
    let asks : AsksFor c.args.message.now c.args.at c.in-Ok-Call.call = cc in
    absurd (none c.in-Ok-Call.call asks)

pub returns-clause-stands : goal.returns-clause-stands
returns-clause-stands g c s held only call asks = none_made s _ _ held only

pub returns-in-Ok-Call-clause-stands : goal.returns-in-Ok-Call-clause-stands
returns-in-Ok-Call-clause-stands g c s held only call asks =
    let read = c.in-Ok-Call.ensures in
    let same : c.in-Ok-Call.call ≡ call = cc in
    let k = g.K.Keep in
    let P : Call → Type 0 = λ made. StandsAfter s (made_of c.make_call.result made) (calls_made c.make_call.result) (k.holds c.make_call.new.desk) (k.after_stop c.make_call.new.desk) in
    subst P same (c.make_call.ensures.stands s held only)
