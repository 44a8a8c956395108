use Rattle.std.proofs.Common.{rules, inr, refl}
use Rattle.tb_sending.specs.Places.{HasNoTask, no_task}
use Rattle.tb_sending.proofs.Endings.{refusal_cut}
use Rattle.tb_sending.proofs.places.take_reply.Goals as goal

pub returns-in_default-2-clause-unread : goal.returns-in_default-2-clause-unread
returns-in_default-2-clause-unread g c =
    let none : HasNoTask c.args.order.now.words c.args.reply.now = record {
      tasks = c.in-Some.tasks;
      accepted = search rules;
      read = search rules;
      missing = search rules;
    } in
    refusal_cut g.W.Write.contents c.print_refusal-in_default-2.result c.args.order.now.words c.args.reply.now c.args.writer.now
    c.print_refusal-in_default-2.new.writer no_task (inr (none, refl))
    (rw c.as_bytes.ensures.value at c.print_refusal-in_default-2.ensures.front) c.print_refusal-in_default-2.ensures.fault
