use Rattle.std.proofs.Common.{Err, OnErr, ap, refl, subst}
use Rattle.std.proofs.lemmas.Result.{IfErr-weaker}
use Rattle.tb_orders.specs.Orders.{line_text}
use Rattle.tb_calls.specs.declared.reply.Reply.{Reply}
use Rattle.tb_values.specs.Appends.{AppendsFront}
use Rattle.tb_orders.proofs.Doing.{answered_one, fine_at, unanswered_one}
use Rattle.tb_orders.proofs.importing.make_call.Goals as goal

pub returns-in-Ok-clause-front : goal.returns-in-Ok-clause-front
returns-in-Ok-clause-front g c y s held =
    let P : Reply → Type 0 = λ told. OnErr c.print_reply.result
    (AppendsFront (g.W.Write.contents c.args.writer.now) (g.W.Write.contents c.print_reply.new.writer) (line_text told)) in
    subst P (c.in-Ok.ensures.told y s held) c.print_reply.ensures.front

pub returns-in-Ok-clause-stands : goal.returns-in-Ok-clause-stands
returns-in-Ok-clause-stands g c s held only =
    answered_one c.print_reply.result s c.args.call.now _ _ c.print_reply.ensures.fault (c.in-Ok.ensures.stands s held only)

pub returns-in-Err-clause-stands : goal.returns-in-Err-clause-stands
returns-in-Err-clause-stands g c s held only =
    let did = c.in-Err.ensures in
    unanswered_one c.in-Err.fault c.fault_of_keep.result s c.args.call.now _ _ c.fault_of_keep.ensures.value (did.stands s held only)
    (λ e. let left = did.memory s held (ap Err e) in (left, g.met.K.Keep.alone _ s left (fine_at _ c.in-Err.fault _ refl did.failed e)))

pub returns-in-Ok-clause-silent : goal.returns-in-Ok-clause-silent
returns-in-Ok-clause-silent g c = IfErr-weaker c.print_reply.result _ _ (λ fault is not. absurd (not is)) c.print_reply.ensures.fault
