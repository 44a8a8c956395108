-- Links stay within the nodes.
use Rattle.std.proofs.Common.{◌≡◌, ◌≢◌, ◌⊎◌, inl, inr, ℕ, zero, suc, ◌<◌, ◌==◌, Result, Ok, Err, OnOk, OnErr, List, [], ◌∷◌, ◌++◌, length, get_or, set, replicate, refl, ◌∙◌, ap, subst, get_or-set_other, get_or-set_same}
use Rattle.std.proofs.lemmas.Bool.{cases_Bool, eqb-true, eqb-false}
use Rattle.std.proofs.Math.ListN.{length-set}
use Rattle.tb_graph.specs.Walk.{Graph, IsIn, IsWellFormed}
use Rattle.tb_graph.proofs.Lists.{IsIn-append}

none : List ℕ
none = []

blank : (n a : ℕ) → get_or (replicate n none) a none ≡ none
unfolding none
blank zero a = refl
blank (suc n) zero = refl
blank (suc n) (suc a) = blank n a

pub well_formed_blank : (g : Graph) (n : ℕ) → g ≡ replicate n [] → IsWellFormed g
unfolding none
well_formed_blank g n is a b link =
    absurd (subst (IsIn b) (ap (λ h. get_or h a []) is ∙ blank n a) link)

pub added : {A E : Type 0} (r : Result A E) (old new : List ℕ) (to : ℕ) → OnOk r (new ≡ old ++ to ∷ []) → OnErr r (new ≡ old) → (b : ℕ) → IsIn b new → IsIn b old ⊎ (to ≡ b)
added (Ok x) old new to ok err b h =
    elim (IsIn-append b old (to ∷ []) (subst (IsIn b) ok h)) [
      | inl before ↦ inl before
      | inr here ↦ elim here [ inl e ↦ inr e | inr none ↦ absurd none ]
    ]
added (Err e) old new to ok err b h = inl (subst (IsIn b) err h)

pub well_formed_add : (g : Graph) (from to : ℕ) (ts : List ℕ) → IsWellFormed g → from < length g → to < length g
    → ((b : ℕ) → IsIn b ts → IsIn b (get_or g from []) ⊎ (to ≡ b)) → IsWellFormed (set g from ts)
well_formed_add g from to ts formed within inside only a b link =
    rw (length-set g from ts)
    (elim (cases_Bool (a == from)) [
      | inl same ↦
          let e : a ≡ from = eqb-true a from same in
          let here : IsIn b ts = subst (IsIn b) (rw (e, get_or-set_same) refl) link in
          elim (only b here) [ inl before ↦ formed from b before | inr at ↦ subst (λ n. n < length g) at inside ]
      | inr other ↦
          let ne : a ≢ from = eqb-false a from other in
          formed a b (rw get_or-set_other at link)
    ])
