use Rattle.std.proofs.Common.{inr}
use Rattle.std.proofs.lemmas.Result.{IfErr-weaker, IfOk-weaker}
use Rattle.taskboard.proofs.Sessions.{end_as, run_as}
use Rattle.taskboard.proofs.serve.serve_desk.Goals as goal

pub returns-clause-served : goal.returns-clause-served
returns-clause-served g c =
    IfOk-weaker c.serve_over.result _ _ (λ ending is. (is.0, run_as _ _ _ _ _ c.in_ok-server.ensures.desk is.1)) c.serve_over.ensures.served

pub returns-clause-left : goal.returns-clause-left
returns-clause-left g c =
    IfErr-weaker c.serve_over.result _ _ (λ fault end. inr (end_as _ _ _ _ _ c.in_ok-server.ensures.desk _ fault end)) c.serve_over.ensures.cut
