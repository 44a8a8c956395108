use Rattle.std.proofs.Common.{◌≡◌, OnErr, inl, inr, subst, sym, true}
use Rattle.std.specs.Prelude.{◌∷◌, []}
use Rattle.tb_calls.specs.Call.{reply}
use Rattle.tb_calls.specs.Leaving.{Only, StandsAfter}
use Rattle.tb_calls.specs.declared.call.Call.{Call}
use Rattle.tb_orders.specs.NewKey.{given_text}
use Rattle.tb_values.specs.Appends.{AppendsFront}
use Rattle.tb_files.proofs.Given.{given_by, stands_asked}
use Rattle.tb_orders.proofs.Standing.{untouched}
use Rattle.tb_files.proofs.giving.give_key.Goals as goal

pub returns-in-Ok-clause-given : goal.returns-in-Ok-clause-given
returns-in-Ok-clause-given g c honest s held =
    let keep = g.K.Keep in
    let did = c.make_call-end.ensures in
    let found = subst (λ k. keep.is_honest k ≡ true) c.new-desk.ensures (did.honest honest) in
    let begun = subst (λ k. keep.holds k s) (sym c.new-desk.ensures) (c.call_for-made.ensures.same.held s held) in
    given_by c.make_call-end.result c.args.asked.now s c.in-Ok.call _ _ _ (c.in-Ok.ensures.call found s held) (did.left s begun) (did.told honest s begun) (did.ending honest s begun)

pub returns-in-Ok-clause-held : goal.returns-in-Ok-clause-held
returns-in-Ok-clause-held g c honest s held =
    let keep = g.K.Keep in
    let did = c.make_call-end.ensures in
    let found = subst (λ k. keep.is_honest k ≡ true) c.new-desk.ensures (did.honest honest) in
    let begun = subst (λ k. keep.holds k s) (sym c.new-desk.ensures) (c.call_for-made.ensures.same.held s held) in
    elim (did.held s begun) [
      | inl same ↦ inl same
      | inr done ↦ inr (c.in-Ok.call, c.in-Ok.ensures.call found s held, done)
    ]

pub returns-in-Ok-clause-stands : goal.returns-in-Ok-clause-stands
returns-in-Ok-clause-stands g c honest s held only call is =
    let keep = g.K.Keep in
    let did = c.make_call-end.ensures in
    let still = c.call_for-made.ensures.same in
    let found = subst (λ k. keep.is_honest k ≡ true) c.new-desk.ensures (did.honest honest) in
    let begun = subst (λ k. keep.holds k s) (sym c.new-desk.ensures) (still.held s held) in
    let alone = subst (λ k. Only s (keep.after_stop k)) (sym c.new-desk.ensures) (λ t may. only t (still.stops s t held may)) in
    stands_asked s c.args.asked.now c.in-Ok.call call _ _ _ (c.in-Ok.ensures.call found s held) is (did.stands s begun alone)

pub returns-in-Err-clause-held : goal.returns-in-Err-clause-held
returns-in-Err-clause-held g c honest s held =
    inl (subst (λ k. g.K.Keep.holds k s) (sym c.new-desk.ensures) (c.call_for-made.ensures.same.held s held))

pub returns-in-Err-clause-stands : goal.returns-in-Err-clause-stands
returns-in-Err-clause-stands g c honest s held only call is =
    let keep = g.K.Keep in
    let still = c.call_for-made.ensures.same in
    let begun = subst (λ k. keep.holds k s) (sym c.new-desk.ensures) (still.held s held) in
    let alone = subst (λ k. Only s (keep.after_stop k)) (sym c.new-desk.ensures) (λ t may. only t (still.stops s t held may)) in
    subst (λ n. StandsAfter s (call ∷ []) n (keep.holds c.new-desk.result) (keep.after_stop c.new-desk.result)) (sym c.in-Err.ensures.unmade)
    (untouched s call _ _ begun alone)

pub returns-in-Ok-clause-front : goal.returns-in-Ok-clause-front
returns-in-Ok-clause-front g c honest s held call is =
    let keep = g.K.Keep in
    let did = c.make_call-end.ensures in
    let found = subst (λ k. keep.is_honest k ≡ true) c.new-desk.ensures (did.honest honest) in
    let begun = subst (λ k. keep.holds k s) (sym c.new-desk.ensures) (c.call_for-made.ensures.same.held s held) in
    let made = c.in-Ok.ensures.call found s held in
    let same : c.in-Ok.call ≡ call = cc in
    let P : Call → Type 0 = λ it. OnErr c.make_call-end.result
    (AppendsFront (g.W.Write.contents c.args.writer.now) (g.W.Write.contents c.make_call-end.new.writer) (given_text c.args.asked.now (reply s [] it))) in
    subst P same (did.front honest s begun)

pub returns-in-Err-clause-ours : goal.returns-in-Err-clause-ours
returns-in-Err-clause-ours g c is honest s held =
    c.in-Err.ensures.ours (cc) (subst (λ k. g.K.Keep.is_honest k ≡ true) c.new-desk.ensures honest) s held

pub returns-in-Err-clause-store : goal.returns-in-Err-clause-store
returns-in-Err-clause-store g c is =
    subst (λ k. g.K.Keep.has_failed k ≡ true) (sym c.new-desk.ensures) (c.in-Err.ensures.store (cc))
