use Rattle.std.proofs.Common.{◌≡◌, IfOk, subst}
use Rattle.tb_orders.specs.Message.{message_under}
use Rattle.tb_orders.proofs.running.part_message.Goals as goal

pub returns : goal.returns
returns c =
    subst (λ id. IfOk c.message_under.result (λ message. message ≡ message_under c.args.order.now id c.args.part.now)) c.in_ok-id.ensures
    (subst (λ text. IfOk c.message_under.result (λ message. message ≡ message_under c.args.order.now c.in_ok-id.id text)) c.in_ok-text.ensures
    c.message_under.ensures)
