use Rattle.std.proofs.Common.{rules, ◌≡◌, inr, subst}
use Rattle.tb_event_loop.specs.Logging.{failure_text}
use Rattle.tb_values.specs.Appends.{AppendsFront}
use Rattle.tb_event_loop.proofs.journal.Journal.tell_failed.Goals as goal

pub returns-in-Ok : goal.returns-in-Ok
returns-in-Ok g c =
    let is : c.deref-in-Ok.result.now ≡ failure_text c.failed_of-failed.result = search rules in
    record {
      told = inr (record {
        failed = c.failed_of-failed.result;
        member = search rules;
        method = search rules;
        target = search rules;
        told = subst (AppendsFront (g.W.Write.contents c.args.self.now.errors) (g.W.Write.contents c.write_line.new.errors)) is c.write_line.ensures.front;
      });
    }
