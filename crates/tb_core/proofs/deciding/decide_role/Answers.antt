use Rattle.std.proofs.Common.{ap, not, sym, ◌∙◌}
use Rattle.std.proofs.lemmas.Result.{IfOk-weaker}
use Rattle.tb_core.proofs.Decided.{is_role}
use Rattle.tb_core.proofs.Shapes.{role_shape}
use Rattle.tb_core.proofs.deciding.decide_role.Goals as goal

pub returns-clause-decided : goal.returns-clause-decided
returns-clause-decided c =
    IfOk-weaker c.role_decision.result _ _
    (λ d decides w name n other is.
    is_role w c.args.seen.now name n other c.args.role c.args.at c.in-Some.found c.in-Some-other.other d is (ap not (c.is_none.ensures ∙ ap not c.if-is_none.false))
    c.in-Some.is c.in-Some-other.is (sym c.is_owner_role.ensures ∙ c.if-not-is_owner_role.false) (sym c.is_last_owner.ensures ∙ c.if-is_last_owner.false) decides)
    (rw c.get.ensures at c.role_decision.ensures)

pub returns-clause-unchanged : goal.returns-clause-unchanged
returns-clause-unchanged c = IfOk-weaker c.role_decision.result _ _ (λ d decides. rw decides.answer tt) c.role_decision.ensures

pub returns-clause-shape : goal.returns-clause-shape
returns-clause-shape c = IfOk-weaker c.role_decision.result _ _ (λ d decides. role_shape _ _ _ _ d decides) c.role_decision.ensures
