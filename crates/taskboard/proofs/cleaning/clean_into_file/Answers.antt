use Rattle.std.proofs.Common.{◌≡◌, Bool, Ok, inl, inr, refl, subst}
use Rattle.std.proofs.lemmas.Result.{IfErr-weaker}
use Rattle.taskboard.specs.Failing.{IsUnclean}
use Rattle.taskboard.proofs.Handed.{left_by}
use Rattle.tb_cleaning.specs.Cleaning.{Cleans}
use Rattle.tb_orders.specs.Items.{fault_alone}
use Rattle.taskboard.proofs.cleaning.clean_into_file.Goals as goal

pub returns-in_err-text-clause-left : goal.returns-in_err-text-clause-left
returns-in_err-text-clause-left g c =
    left_by c.from_residual.result (fault_alone c.in_err-text.field-0.0) _ c.from_residual.ensures.1 (inl (refl, c.in_err-text.ensures.unread))

pub returns-in_err-cleaned-clause-left : goal.returns-in_err-cleaned-clause-left
returns-in_err-cleaned-clause-left g c =
    let unclean = subst (λ (skips : Bool). IsUnclean skips c.in_ok-text.text c.in_err-cleaned.field-0.0) c.is_skip.ensures c.in_err-cleaned.ensures.unclean in
    left_by c.from_residual-in_err-cleaned.result (fault_alone c.in_err-cleaned.field-0.0) _ c.from_residual-in_err-cleaned.ensures.1
    (inr (record { text = c.in_ok-text.text; whole = c.in_ok-text.ensures.whole; cut = inl (refl, unclean) }))

pub returns-clause-left : goal.returns-clause-left
returns-clause-left g c =
    let cleans = subst (λ (skips : Bool). Cleans skips c.in_ok-text.text (Ok c.in_ok-cleaned.cleaned)) c.is_skip.ensures c.in_ok-cleaned.ensures.cleans in
    IfErr-weaker c.bring.result _ _
    (λ failed left. inr (record { text = c.in_ok-text.text; whole = c.in_ok-text.ensures.whole; cut = inr (c.in_ok-cleaned.cleaned, cleans, left) }))
    c.bring.ensures.left
