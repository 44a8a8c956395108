use Rattle.std.proofs.Common.{inl}
use Rattle.std.proofs.lemmas.Result.{IfErr-weaker, IfOk-weaker}
use Rattle.tb_sending.proofs.sending.send_order.Goals as goal

pub returns-clause-sent : goal.returns-clause-sent
returns-clause-sent g c =
    IfOk-weaker c.send_settled.result _ _
    (λ ending sends. (c.in-Ok.line, c.send_settled.new.line, (c.in-Ok.ensures.dial, c.in-Ok.ensures.server, c.in-Ok.ensures.seconds), sends)) c.send_settled.ensures.sent

pub returns-clause-unsent : goal.returns-clause-unsent
returns-clause-unsent g c =
    IfErr-weaker c.send_settled.result _ _
    (λ fault fails. inl (c.in-Ok.line, c.send_settled.new.line, (c.in-Ok.ensures.dial, c.in-Ok.ensures.server, c.in-Ok.ensures.seconds), fails)) c.send_settled.ensures.unsent
