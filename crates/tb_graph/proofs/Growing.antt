-- What the marks and the work are after some targets.
use Rattle.std.proofs.Common.{◌≡◌, ◌⊎◌, inl, inr, ℕ, ◌+◌, ◌<◌, Bool, true, false, List, [], ◌∷◌, ◌++◌, length, set, refl, ◌∙◌, subst, arith, length-append}
use Rattle.std.proofs.lemmas.Bool.{cases_Bool}
use Rattle.std.proofs.Math.ListN.{length-set}
use Rattle.tb_graph.specs.Walk.{IsIn}
use Rattle.tb_graph.specs.Marks.{is_marked}
use Rattle.tb_graph.specs.Search.{marks_after, work_after}
use Rattle.tb_graph.proofs.Lists.{IsIn-left, IsIn-right, IsIn-append}
use Rattle.tb_graph.proofs.Marking.{unmarked, unmarked-set, mark_here, mark_kept, mark_only}

-- the targets are marked, and each that is new is to be looked at
pub record Grows (marks : List Bool) (work ts : List ℕ) (marks' : List Bool) (work' : List ℕ) : Type 0 where
  pub size : length marks' ≡ length marks
  pub kept : (v : ℕ) → is_marked marks v ≡ true → is_marked marks' v ≡ true
  pub added : (v : ℕ) → IsIn v ts → is_marked marks' v ≡ true
  pub only : (v : ℕ) → is_marked marks' v ≡ true → (is_marked marks v ≡ true) ⊎ (IsIn v ts × IsIn v work')
  pub work_kept : (v : ℕ) → IsIn v work → IsIn v work'
  pub work_only : (v : ℕ) → IsIn v work' → IsIn v work ⊎ (IsIn v ts × (is_marked marks' v ≡ true))
  pub total : unmarked marks' + length work' ≡ unmarked marks + length work

grows_known : (marks : List Bool) (work : List ℕ) (t : ℕ) (ts : List ℕ) (marks' : List Bool) (work' : List ℕ) → is_marked marks t ≡ true
    → Grows marks work ts marks' work' → Grows marks work (t ∷ ts) marks' work'
grows_known marks work t ts marks' work' known g =
    record {
      size = g.size;
      kept = g.kept;
      added = λ v. λ h. elim h [ inl e ↦ g.kept v (subst (λ n. is_marked marks n ≡ true) e known) | inr later ↦ g.added v later ];
      only = λ v h. elim (g.only v h) [ inl old ↦ inl old | inr fresh ↦ inr (inr fresh.0, fresh.1) ];
      work_kept = g.work_kept;
      work_only = λ v h. elim (g.work_only v h) [ inl old ↦ inl old | inr fresh ↦ inr (inr fresh.0, fresh.1) ];
      total = g.total;
    }

grows_new : (marks : List Bool) (work : List ℕ) (t : ℕ) (ts : List ℕ) (marks' : List Bool) (work' : List ℕ) → t < length marks → is_marked marks t ≡ false
    → Grows (set marks t true) (work ++ t ∷ []) ts marks' work' → Grows marks work (t ∷ ts) marks' work'
grows_new marks work t ts marks' work' within new g =
    record {
      size = g.size ∙ length-set marks t true;
      kept = λ v h. g.kept v (mark_kept marks t v within h);
      added = λ v. λ h. elim h [ inl e ↦ g.kept v (mark_here marks t v within e) | inr later ↦ g.added v later ];
      only = λ v h. elim (g.only v h) [
        | inl old ↦ elim (mark_only marks t v old) [
          | inl e ↦ inr (inl e, g.work_kept v (IsIn-right v work (t ∷ []) (inl e)))
          | inr before ↦ inl before
        ]
        | inr fresh ↦ inr (inr fresh.0, fresh.1)
      ];
      work_kept = λ v h. g.work_kept v (IsIn-left v work (t ∷ []) h);
      work_only = λ v h. elim (g.work_only v h) [
        | inl old ↦ elim (IsIn-append v work (t ∷ []) old) [
          | inl before ↦ inl before
          | inr here ↦ inr (at_front v t ts here, g.kept v (mark_here marks t v within (only_one v t here)))
        ]
        | inr fresh ↦ inr (inr fresh.0, fresh.1)
      ];
      total = omega (arith, g.total, unmarked-set marks t within new, length-append work (t ∷ []));
    }
  where
    only_one : (v t : ℕ) → IsIn v (t ∷ []) → t ≡ v
    only_one v t (inl e) = e
    only_one v t (inr none) = elim none [ ]

    at_front : (v t : ℕ) (ts : List ℕ) → IsIn v (t ∷ []) → IsIn v (t ∷ ts)
    at_front v t ts (inl e) = inl e
    at_front v t ts (inr none) = elim none [ ]

pub grows : (marks : List Bool) (work ts : List ℕ) → ((t : ℕ) → IsIn t ts → t < length marks) → Grows marks work ts (marks_after marks ts) (work_after marks work ts)
grows marks work [] nodes =
    record {
      size = refl;
      kept = λ v h. h;
      added = λ v h. absurd h;
      only = λ v h. inl h;
      work_kept = λ v h. h;
      work_only = λ v h. inl h;
      total = refl;
    }
grows marks work (t ∷ ts) nodes =
    let within : t < length marks = nodes t (inl refl) in
    elim (cases_Bool (is_marked marks t)) [
      | inl known ↦ rw known (grows_known marks work t ts _ _ known (grows marks work ts (λ u h. nodes u (inr h))))
      | inr new ↦
          rw new (grows_new marks work t ts _ _ within new
          (grows (set marks t true) (work ++ t ∷ []) ts (λ u h. let fits = nodes u (inr h) in omega (arith, fits, length-set marks t true))))
    ]
