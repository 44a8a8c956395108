use Rattle.std.proofs.Common.{rules, refl, subst, sym}
use Rattle.tb_caller.proofs.Lines.{called_by}
use Rattle.tb_caller.specs.Sent.{IsSentOver}
use Rattle.tb_caller.proofs.mine.CallerAsks.ask.Goals as goal

pub returns-in-Ok-clause-asked : goal.returns-in-Ok-clause-asked
returns-in-Ok-clause-asked g c =
    let sent = c.in-Ok.ensures.sent in (
      refl,
      refl,
      (
        record {
          order = c.name_call.new.order;
          server = search rules;
          member = search rules;
          under = search rules;
          words = search rules;
          call = called_by g.G.Chance.gives c.args.call _ c.name_call.new.order c.args.self.now.chance c.name_call.new.chance refl c.name_call.ensures.given c.name_call.ensures.random;
          before = c.new-body.result;
          after = c.send_order.new.writer;
          none = c.new-body.ensures.items;
          body = sym c.from_vec.ensures;
          sent = subst (IsSentOver _ _ c.name_call.new.order c.new-body.result c.send_order.new.writer) c.is_accepted.ensures
              (record { ready = c.send_order.new.order; machine = c.new-dial.result; old = sent.0; new = sent.1; to = sent.2; comes = sent.3 });
        },
        c.send_order.new.chance,
        refl,
      ),
    )
