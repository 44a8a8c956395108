use Rattle.std.proofs.lemmas.Result.{IfErr-weaker, IfOk-weaker}
use Rattle.tb_caller.proofs.Lines.{cut_over}
use Rattle.tb_caller.proofs.sending.send.Goals as goal

pub returns-clause-sent : goal.returns-clause-sent
returns-clause-sent g c =
    IfOk-weaker c.send_order.result _ _ (λ ending sent. record { ready = c.send_order.new.order; machine = c.new-dial.result; old = sent.0; new = sent.1; to = sent.2; comes = sent.3 })
    c.send_order.ensures.sent

pub returns-clause-unsent : goal.returns-clause-unsent
returns-clause-unsent g c =
    IfErr-weaker c.send_order.result _ _
    (λ fault unsent. cut_over unsent (λ cut. record { ready = c.send_order.new.order; machine = c.new-dial.result; old = cut.0; new = cut.1; to = cut.2; fails = cut.3 }))
    c.send_order.ensures.unsent
