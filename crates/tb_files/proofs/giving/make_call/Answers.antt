use Rattle.tb_orders.proofs.Standing.{answered, unanswered}
use Rattle.std.proofs.Common.{OnErr, refl, subst}
use Rattle.std.proofs.lemmas.Result.{IfErr-weaker}
use Rattle.tb_calls.specs.declared.reply.Reply.{Reply}
use Rattle.tb_orders.specs.NewKey.{given_text}
use Rattle.tb_values.specs.Appends.{AppendsFront}
use Rattle.tb_calls.specs.declared.fault.KeepFault.TheVariants as keep
use Rattle.tb_program.specs.declared.fault.Fault.TheVariants as fault
use Rattle.tb_files.proofs.giving.make_call.Goals as goal

pub returns-in-Ok-clause-stands : goal.returns-in-Ok-clause-stands
returns-in-Ok-clause-stands g c s held only =
    answered c.print_given.result s c.args.call.now _ _ c.print_given.ensures.fault (c.in-Ok.ensures.stands s held only)

pub returns-in-Err-Memory-clause-stands : goal.returns-in-Err-Memory-clause-stands
returns-in-Err-Memory-clause-stands g c s held only = unanswered keep.Memory fault.Memory s c.args.call.now _ _ refl (c.in-Err-Memory.ensures.stands s held only)

pub returns-in-Err-Store-clause-stands : goal.returns-in-Err-Store-clause-stands
returns-in-Err-Store-clause-stands g c s held only = unanswered keep.Store fault.Store s c.args.call.now _ _ refl (c.in-Err-Store.ensures.stands s held only)

pub returns-in-Ok-clause-front : goal.returns-in-Ok-clause-front
returns-in-Ok-clause-front g c y s held =
    let P : Reply → Type 0 = λ told. OnErr c.print_given.result
    (AppendsFront (g.W.Write.contents c.args.writer.now) (g.W.Write.contents c.print_given.new.writer) (given_text c.args.asked.now told)) in
    subst P (c.in-Ok.ensures.told y s held) c.print_given.ensures.front

pub returns-in-Ok-clause-silent : goal.returns-in-Ok-clause-silent
returns-in-Ok-clause-silent g c = IfErr-weaker c.print_given.result _ _ (λ fault is not. absurd (not is)) c.print_given.ensures.fault
