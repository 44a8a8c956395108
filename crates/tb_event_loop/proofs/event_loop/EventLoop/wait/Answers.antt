use Rattle.tb_event_loop.proofs.event_loop.EventLoop.wait.Goals as goal

pub returns-clause-heard : goal.returns-clause-heard
returns-clause-heard g c is =
    (c.idle_millis.result, record { busy = c.idle_millis.ensures.busy; idle = c.idle_millis.ensures.idle }, c.wait.ensures.heard is)

pub returns-clause-deaf : goal.returns-clause-deaf
returns-clause-deaf g c is = c.wait.ensures.deaf is
