-- Lists in strict order, and their parts.
use Rattle.std.proofs.Common.{◌≡◌, ℕ, ◌==◌, Bool, true, false, List, [], ◌∷◌, ◌⊎◌, filter, refl, sym, ap₂, ◌∙◌, subst, inl, inr, IsPermutation}
use Rattle.std.specs.List.{AllByRecursion}
use Rattle.std.proofs.lemmas.Bool.{cases_Bool}
use Rattle.std.proofs.lemmas.Bool.Decides.{eqb_tells}
use Rattle.std.proofs.lemmas.List.Elements.{All-from_recursion, recursion_from_All}
use Rattle.std.proofs.lemmas.List.Sorted.{All-permutation, IsPermutation-sym}
use Rattle.sqlite_trees.specs.Tree.{IsAscending}
use Rattle.sqlite_keyed.proofs.ListLemmas.{all_weaker, all_both}

-- ---- two orders of the same items

abbrev IsIn : {X : Type 0} → List X → X → Type 0
IsIn [] z = ⊥
IsIn (x ∷ xs) z = (z ≡ x) ⊎ IsIn xs z

all_in : {X : Type 0} (xs : List X) → AllByRecursion (IsIn xs) xs
all_in [] = tt
all_in (x ∷ xs) = (inl refl, all_weaker (IsIn xs) (IsIn (x ∷ xs)) (λ z h. inr h) xs (all_in xs))

in_other : {X : Type 0} (xs ys : List X) → IsPermutation xs ys → AllByRecursion (IsIn xs) ys
in_other xs ys same = recursion_from_All (IsIn xs) ys (All-permutation (IsIn xs) xs ys same (All-from_recursion (IsIn xs) xs (all_in xs)))

of_all : {X : Type 0} (P : X → Type 0) (xs : List X) (z : X) → AllByRecursion P xs → IsIn xs z → P z
of_all P [] z all h = absurd h
of_all P (x ∷ xs) z all h = elim h [ inl same ↦ subst P (sym same) all.0 | inr later ↦ of_all P xs z all.1 later ]

module _ {X : Type 0} (R : X → X → Type 0) (one_way : (x y : X) → R x y → R y x → ⊥) where
  same_head : (x y : X) (xs ys : List X) → AllByRecursion (R x) xs → AllByRecursion (R y) ys → IsIn (x ∷ xs) y → IsIn (y ∷ ys) x → x ≡ y
  same_head x y xs ys up_x up_y y_in x_in =
      elim y_in [
        | inl same ↦ sym same
        | inr later ↦ elim x_in [ inl same ↦ same | inr also ↦ absurd (one_way x y (of_all (R x) xs y up_x later) (of_all (R y) ys x up_y also)) ]
      ]

  -- what comes after the head of one list is after the head of the other
  rest_in : (x y : X) (xs ys : List X) → x ≡ y → AllByRecursion (R y) ys → AllByRecursion (IsIn (x ∷ xs)) ys → AllByRecursion (IsIn xs) ys
  rest_in x y xs ys same up all =
      all_both (R y) (IsIn (x ∷ xs)) (IsIn xs)
      (λ z after h. elim h [ inl again ↦ absurd (itself z y (again ∙ same) after) | inr later ↦ later ]) ys up all
    where
      itself : (z v : X) → z ≡ v → R v z → ⊥
      itself z v is after = let twice : R v v = subst (R v) is after in one_way v v twice twice

  same_items : (xs ys : List X) → IsAscending R xs → IsAscending R ys → AllByRecursion (IsIn xs) ys → AllByRecursion (IsIn ys) xs → xs ≡ ys
  same_items [] [] up_x up_y y_in x_in = refl
  same_items [] (y ∷ ys) up_x up_y y_in x_in = absurd (y_in.0)
  same_items (x ∷ xs) [] up_x up_y y_in x_in = absurd (x_in.0)
  same_items (x ∷ xs) (y ∷ ys) up_x up_y y_in x_in =
      let same = same_head x y xs ys up_x.0 up_y.0 y_in.0 x_in.0 in
      ap₂ ◌∷◌ same
      (same_items xs ys up_x.1 up_y.1 (rest_in x y xs ys same up_y.0 y_in.1) (rest_in y x ys xs (sym same) up_x.0 x_in.1))

  -- the same items stand in one strict order
  pub one_order : (xs ys : List X) → IsPermutation xs ys → IsAscending R xs → IsAscending R ys → xs ≡ ys
  one_order xs ys same up_x up_y = same_items xs ys up_x up_y (in_other xs ys same) (in_other ys xs (IsPermutation-sym xs ys same))

-- ---- filters

pub all_passed : {X : Type 0} (p : X → Bool) (xs : List X) → AllByRecursion (λ x. p x ≡ true) (filter p xs)
all_passed p [] = tt
all_passed p (x ∷ xs) = elim (cases_Bool (p x)) [ inl here ↦ rw here (here, all_passed p xs) | inr other ↦ rw other (all_passed p xs) ]

pub differ : (m n : ℕ) → (m ≡ n → ⊥) → (m == n) ≡ false
differ m n other = elim (eqb_tells m n) [ inl same ↦ absurd (other same.1) | inr not_same ↦ not_same.0 ]
