use Rattle.std.proofs.Common.{rules}
use Rattle.std.proofs.lemmas.Result.{IfOk-weaker}
use Rattle.tb_core.proofs.Decided.{is_taken}
use Rattle.tb_core.proofs.Shapes.{role_shape}
use Rattle.tb_core.proofs.deciding.decide_take.Goals as goal

pub returns-clause-decided : goal.returns-clause-decided
returns-clause-decided c =
    IfOk-weaker c.role_decision.result _ _
    (λ d decides w name n is. is_taken w c.args.seen.now name n c.args.at c.in-Some.caller c.in-Some-board.found d is c.in-Some.is c.in-Some-board.is (search rules) decides)
    (rw c.get.ensures at c.role_decision.ensures)

pub returns-clause-unchanged : goal.returns-clause-unchanged
returns-clause-unchanged c = IfOk-weaker c.role_decision.result _ _ (λ d decides. rw decides.answer tt) c.role_decision.ensures

pub returns-clause-shape : goal.returns-clause-shape
returns-clause-shape c = IfOk-weaker c.role_decision.result _ _ (λ d decides. role_shape _ _ _ _ d decides) c.role_decision.ensures
