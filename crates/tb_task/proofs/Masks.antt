-- Marks and masks.
use Rattle.std.proofs.Common.{◌≡◌, ℕ, ◌<◌, Bool, true, ◌||◌, ◌==◌, if◌then◌else◌, List, [], ◌∷◌, ◌++◌, Some, Result, Ok, Err, is_ok, OnOk, refl, ◌∙◌, ap, arith, inl, inr}
use Rattle.std.specs.List.{list_all}
use Rattle.std.proofs.lemmas.List.Folds.{list_all-append}
use Rattle.std.proofs.lemmas.Bool.{or_cases, eqb-true}
use Rattle.tb_task.specs.declared.status.Status.{Status}
use Rattle.tb_task.specs.declared.status.Status.TheVariants.{Pending, Waiting, Recurring, Completed, Deleted}
use Rattle.tb_task.specs.Status.{mark_of}
use Rattle.tb_task.specs.Mask.{is_mark, mark_in}

one_of : (a : Bool) (c n : ℕ) → (a || (c == n)) ≡ true → (a ≡ true → c < 128) → n < 128 → c < 128
one_of a c n h first small = elim (or_cases a (c == n) h) [
  | inl among ↦ first among
  | inr same ↦ omega (arith, eqb-true c n same, small)
]

-- a mark is ASCII
pub mark_ascii : (c : ℕ) → is_mark c ≡ true → c < 128
unfolding is_mark
mark_ascii c h =
    one_of ((c == 45) || (c == 43) || (c == 88) || (c == 87)) c 63 h (λ h4.
    one_of ((c == 45) || (c == 43) || (c == 88)) c 87 h4 (λ h3.
    one_of ((c == 45) || (c == 43)) c 88 h3 (λ h2.
    one_of (c == 45) c 43 h2 (λ h1. omega (arith, eqb-true c 45 h1)) (omega arith)) (omega arith)) (omega arith)) (omega arith)

-- a mark more
pub marks-push : (s : List ℕ) (c : ℕ) → list_all is_mark s ≡ true → is_mark c ≡ true → list_all is_mark (s ++ c ∷ []) ≡ true
marks-push s c all one = list_all-append is_mark s (c ∷ []) ∙ rw (all, one) refl

-- what a push that succeeds or fails leaves
pub pushed : {E : Type 0} (r : Result (Unit {0}) E) (old new written : List ℕ) (c : ℕ) → new ≡ (if is_ok r then old ++ written else old)
    → written ≡ c ∷ [] → list_all is_mark old ≡ true → is_mark c ≡ true → (list_all is_mark new ≡ true) × OnOk r (new ≡ old ++ c ∷ [])
pushed (Ok u) old new written c e w all one =
    let is : new ≡ old ++ c ∷ [] = e ∙ ap (λ more. old ++ more) w in
    (rw is (marks-push old c all one), is)
pushed (Err x) old new written c e w all one = (rw e all, tt)

-- the character of a status is a mark
pub status_marked : (status : Status) (c : ℕ) → mark_of status ≡ Some c → mark_in c ≡ mark_of status
unfolding is_mark
status_marked Pending c h = let e : c ≡ 45 = cc in rw e refl
status_marked Waiting c h = let e : c ≡ 87 = cc in rw e refl
status_marked Recurring c h = cc
status_marked Completed c h = let e : c ≡ 43 = cc in rw e refl
status_marked Deleted c h = let e : c ≡ 88 = cc in rw e refl
