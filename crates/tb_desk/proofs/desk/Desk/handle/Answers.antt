use Rattle.std.proofs.Common.{[], ◌∷◌, sym, ap, subst, ◌∙◌}
use Rattle.tb_calls.specs.Call.{plain}
use Rattle.tb_calls.specs.Keep.{IsNew, IsSettled}
use Rattle.tb_calls.specs.Leaving.{Only}
use Rattle.tb_desk.proofs.Moves.{matched_none, matched_some, stands_all, stands_as_was, stands_new}
use Rattle.tb_desk.proofs.Repeats.{good_all}
use Rattle.tb_desk.proofs.desk.Desk.handle.Goals as goal

pub returns-in_err-reply-clause-stands : goal.returns-in_err-reply-clause-stands
returns-in_err-reply-clause-stands g c s held only =
    let was = subst (λ k. g.K.Keep.holds k s) (sym c.self.view_is) held in
    let alone = subst (λ k. Only s (g.K.Keep.after_stop k)) (sym c.self.view_is) only in
    stands_as_was s _ _ _ _ _ c.from_residual.result c.from_residual.ensures.0 c.in_err-reply.ensures.same was alone

pub returns-in-Some-clause-left : goal.returns-in-Some-clause-left
returns-in-Some-clause-left g c s held =
    let was = subst (λ k. g.K.Keep.holds k s) (sym c.self.view_is) held in
    g.met.K.Keep.given _ _ (good_all s (c.args.call.now ∷ []) (g.met.K.Keep.good _ s held)) (λ honest.
    subst (g.K.Keep.holds c.find_settled.new.keep) (sym (ap (plain s) (matched_some (IsNew s c.args.call.now) (IsSettled s c.args.call.now) _ _ (c.in_ok-reply.ensures.found honest s was) c.in-Some.is).acts_not)) (c.find_settled.ensures.same.held s was))

pub returns-in-Some-clause-stands : goal.returns-in-Some-clause-stands
returns-in-Some-clause-stands g c s held only =
    let left = returns-in-Some-clause-left g c s held in
    stands_all s _ _ (c.args.call.now ∷ []) 1 left (g.met.K.Keep.alone _ _ left c.in_ok-reply.ensures.failed)

pub returns-in-None-clause-stands : goal.returns-in-None-clause-stands
returns-in-None-clause-stands g c s held only =
    let call = c.args.call.now in
    let was = subst (λ k. g.K.Keep.holds k s) (sym c.self.view_is) held in
    let alone = subst (λ k. Only s (g.K.Keep.after_stop k)) (sym c.self.view_is) only in
    let mid = c.find_settled.ensures.same.held s was in
    let e = c.answer_new.ensures in
    stands_new s call _ _ (g.K.Keep.is_honest c.answer_new.new.keep) c.answer_new.result
    (λ honest. matched_none (IsNew s call) (IsSettled s call) _ (c.in_ok-reply.ensures.found (e.honest honest) s was) c.in-None.is)
    (e.left s mid) (e.memory s mid) (λ new. e.store s mid new (λ t left. alone t (c.find_settled.ensures.same.stops s t was left)))
    (λ t now fine. g.met.K.Keep.alone _ t now (e.failed ∙ fine)) (λ t. g.met.K.Keep.given _ t) (g.met.K.Keep.leaves _) (g.met.K.Keep.good _ s held)
