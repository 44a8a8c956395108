use Rattle.std.proofs.Common.{rules, ◌≡◌, inr, subst}
use Rattle.tb_event_loop.specs.Logging.{log_text}
use Rattle.tb_values.specs.Appends.{AppendsFront}
use Rattle.tb_event_loop.proofs.journal.Journal.tell_answered.Goals as goal

pub returns-clause-told : goal.returns-clause-told
returns-clause-told g c =
    let is : c.deref-2.result.now ≡ log_text c.entry_of-entry.result = search rules in
    let same : c.now.new.self.errors ≡ c.args.self.now.errors = search rules in
    let front : AppendsFront (g.W.Write.contents c.now.new.self.errors) (g.W.Write.contents c.write_line.new.errors) c.deref-2.result.now = c.write_line.ensures.front in
    inr (record {
      entry = c.entry_of-entry.result;
      missing = search rules;
      member = search rules;
      method = search rules;
      target = search rules;
      status = search rules;
      bytes = search rules;
      duration = search rules;
      told = subst (λ errors. AppendsFront (g.W.Write.contents errors) (g.W.Write.contents c.write_line.new.errors) (log_text c.entry_of-entry.result)) same
          (subst (AppendsFront (g.W.Write.contents c.now.new.self.errors) (g.W.Write.contents c.write_line.new.errors)) is front);
    })
