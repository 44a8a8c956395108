-- Lists put in order by a total order in which only equal elements tie.
use Rattle.std.proofs.Common.{◌≡◌, ℕ, suc, ◌+◌, true, false, List, [], ◌∷◌, get_or, refl, sym, ap, ◌∙◌, subst, arith, Ordering, Less, Equal, Greater, cond, ◌⊎◌, inl, inr}
use Rattle.std.specs.List.{sum_by, AllByRecursion}
use Rattle.std.specs.List.Sorted.{IsSorted, IsPermutation}
use Rattle.std.specs.Cmp.{IsTotalOrder}
use Rattle.std.specs.Ordering.{is_lt, is_eq, ordering_reverse}
use Rattle.tb_report.specs.Rank.{inserted, ordered}
use Rattle.std.proofs.lemmas.Bool.{cases_Bool}
use Rattle.std.proofs.lemmas.List.Sums.{sum_by-cons}
use Rattle.std.proofs.lemmas.List.Sorted.{sum_by-IsPermutation}

pub record IsExactOrder {X : Type 0} (cmp : X → X → Ordering) : Type 0 where
  pub total : IsTotalOrder cmp
  pub exact : (x y : X) → cmp x y ≡ Equal → x ≡ y

module _ {X : Type 0} (cmp : X → X → Ordering) (order : IsExactOrder cmp) where
  abbrev Goes : X → X → Type 0
  Goes x y = (cmp x y ≡ Less) ⊎ (x ≡ y)

  abbrev Ascends : List X → Type 0
  Ascends [] = Unit {0}
  Ascends (x ∷ xs) = AllByRecursion (Goes x) xs × Ascends xs

  not_less : (o : Ordering) → o ≡ Less → is_lt o ≡ false → ⊥
  not_less Less e h = grind arith
  not_less Equal e h = grind arith
  not_less Greater e h = grind arith

  goes_at : (x y : X) (o : Ordering) → cmp x y ≡ o → is_lt (cmp y x) ≡ false → Goes x y
  goes_at x y Less e h = inl e
  goes_at x y Equal e h = inr (order.exact x y e)
  goes_at x y Greater e h = absurd (not_less (cmp y x) (order.total.antisymm y x ∙ ap ordering_reverse e) h)

  goes_of : (x y : X) → is_lt (cmp y x) ≡ false → Goes x y
  goes_of x y h = goes_at x y (cmp x y) refl h

  less_goes : (x y z : X) → cmp x y ≡ Less → Goes y z → cmp x z ≡ Less
  less_goes x y z h (inl k) = order.total.trans x y z h k
  less_goes x y z h (inr e) = subst (λ w. cmp x w ≡ Less) e h

  goes_on : (x y z : X) → Goes x y → Goes y z → Goes x z
  goes_on x y z (inl h) g = inl (less_goes x y z h g)
  goes_on x y z (inr e) g = subst (λ w. Goes w z) (sym e) g

  all_goes : (x y : X) (zs : List X) → Goes x y → AllByRecursion (Goes y) zs → AllByRecursion (Goes x) zs
  all_goes x y [] g a = tt
  all_goes x y (z ∷ zs) g a = (goes_on x y z g a.0, all_goes x y zs g a.1)

  sorted_tail : (x : X) (xs : List X) → IsSorted cmp (x ∷ xs) → IsSorted cmp xs
  sorted_tail x xs h k d low high =
      let next : suc k + 1 ≡ suc (k + 1) = omega arith in
      subst (λ n. is_lt (cmp (get_or (x ∷ xs) n d) (get_or xs k d)) ≡ false) next (h (suc k) d (omega arith) (omega arith))

  ascends_of : (xs : List X) → IsSorted cmp xs → Ascends xs
  ascends_of [] h = tt
  ascends_of (x ∷ []) h = (tt, tt)
  ascends_of (x ∷ (y ∷ ys)) h =
      let rest : Ascends (y ∷ ys) = ascends_of (y ∷ ys) (sorted_tail x (y ∷ ys) h) in
      let first : Goes x y = goes_of x y (h 0 x (omega arith) (omega arith)) in
      ((first, all_goes x y ys first rest.0), rest)

  all_inserted : (P : X → Type 0) (x : X) (ys : List X) → P x → AllByRecursion P ys → AllByRecursion P (inserted cmp x ys)
  all_inserted P x [] p a = (p, tt)
  all_inserted P x (y ∷ ys) p a = elim (cases_Bool (is_lt (cmp y x))) [
    | inl e ↦ rw e (a.0, all_inserted P x ys p a.1)
    | inr e ↦ rw e (p, (a.0, a.1))
  ]

  less_of : (o : Ordering) → is_lt o ≡ true → o ≡ Less
  less_of Less e = refl
  less_of Equal e = grind arith
  less_of Greater e = grind arith

  ascends_inserted : (x : X) (ys : List X) → Ascends ys → Ascends (inserted cmp x ys)
  ascends_inserted x [] a = (tt, tt)
  ascends_inserted x (y ∷ ys) a = elim (cases_Bool (is_lt (cmp y x))) [
    | inl e ↦ rw e (all_inserted (Goes y) x ys (inl (less_of (cmp y x) e)) a.0, ascends_inserted x ys a.1)
    | inr e ↦ rw e ((goes_of x y e, all_goes x y ys (goes_of x y e) a.0), a)
  ]

  ascends_ordered : (xs : List X) → Ascends (ordered cmp xs)
  ascends_ordered [] = tt
  ascends_ordered (x ∷ xs) = ascends_inserted x (ordered cmp xs) (ascends_ordered xs)

  count_inserted : (f : X → ℕ) (x : X) (ys : List X) → sum_by f (inserted cmp x ys) ≡ f x + sum_by f ys
  count_inserted f x [] = sum_by-cons f x []
  count_inserted f x (y ∷ ys) = elim (cases_Bool (is_lt (cmp y x))) [
    | inl e ↦ rw (e, sum_by-cons f y (inserted cmp x ys), sum_by-cons f y ys, count_inserted f x ys) (omega arith)
    | inr e ↦ rw e (sum_by-cons f x (y ∷ ys))
  ]

  count_ordered : (f : X → ℕ) (xs : List X) → sum_by f (ordered cmp xs) ≡ sum_by f xs
  count_ordered f [] = refl
  count_ordered f (x ∷ xs) = rw (count_inserted f x (ordered cmp xs), sum_by-cons f x xs, count_ordered f xs) refl

  same_as : X → X → ℕ
  same_as x y = cond (is_eq (cmp x y)) 1 0

  tie_of : (o : Ordering) → o ≡ ordering_reverse o → o ≡ Equal
  tie_of Less e = grind arith
  tie_of Equal e = refl
  tie_of Greater e = grind arith

  itself : (x : X) → same_as x x ≡ 1
  unfolding same_as
  itself x = rw (tie_of (cmp x x) (order.total.antisymm x x)) refl

  -- what goes after an element that comes later isn't that element
  none_same : (x y : X) (zs : List X) → cmp x y ≡ Less → AllByRecursion (Goes y) zs → sum_by (same_as x) zs ≡ 0
  unfolding same_as
  none_same x y [] h a = refl
  none_same x y (z ∷ zs) h a =
      rw (sum_by-cons (same_as x) z zs, less_goes x y z h a.0, none_same x y zs h a.1) refl

  abbrev SameCounts : List X → List X → Type 0
  SameCounts xs ys = (f : X → ℕ) → sum_by f xs ≡ sum_by f ys

  none_before : (x y : X) (xs ys : List X) → cmp x y ≡ Less → Ascends (y ∷ ys) → SameCounts (x ∷ xs) (y ∷ ys) → ⊥
  none_before x y xs ys h a s =
      let some = sum_by-cons (same_as x) x xs in
      let one = itself x in
      let none = none_same x y (y ∷ ys) h (inr refl, a.0) in
      let same = s (same_as x) in
      omega arith

  equal_heads : (x y : X) (xs ys : List X) (o : Ordering) → cmp x y ≡ o → Ascends (x ∷ xs) → Ascends (y ∷ ys) → SameCounts (x ∷ xs) (y ∷ ys) → x ≡ y
  equal_heads x y xs ys Less e a b s = absurd (none_before x y xs ys e b s)
  equal_heads x y xs ys Equal e a b s = order.exact x y e
  equal_heads x y xs ys Greater e a b s =
      absurd (none_before y x ys xs (order.total.antisymm y x ∙ ap ordering_reverse e) a (λ f. sym (s f)))

  same_tails : (x y : X) (xs ys : List X) → x ≡ y → SameCounts (x ∷ xs) (y ∷ ys) → SameCounts xs ys
  same_tails x y xs ys e s f =
      let first = sum_by-cons f x xs in
      let second = sum_by-cons f y ys in
      let whole = s f in
      let heads : f x ≡ f y = ap f e in
      omega arith

  equal_lists : (xs ys : List X) → Ascends xs → Ascends ys → SameCounts xs ys → xs ≡ ys
  equal_lists [] [] a b s = refl
  equal_lists [] (y ∷ ys) a b s =
      let one = sum_by-cons (λ z. 1) y ys in
      let same : 0 ≡ sum_by (λ z. 1) (y ∷ ys) = s (λ z. 1) in
      absurd (omega arith)
  equal_lists (x ∷ xs) [] a b s =
      let one = sum_by-cons (λ z. 1) x xs in
      let same : sum_by (λ z. 1) (x ∷ xs) ≡ 0 = s (λ z. 1) in
      absurd (omega arith)
  equal_lists (x ∷ xs) (y ∷ ys) a b s =
      let heads : x ≡ y = equal_heads x y xs ys (cmp x y) refl a b s in
      rw heads (ap (λ zs. y ∷ zs) (equal_lists xs ys a.1 b.1 (same_tails x y xs ys heads s)))

  -- what a sort gives is the list put in order
  pub sorted_is : (xs ys : List X) → IsPermutation xs ys → IsSorted cmp ys → ys ≡ ordered cmp xs
  sorted_is xs ys moved sorted =
      equal_lists ys (ordered cmp xs) (ascends_of ys sorted) (ascends_ordered xs) (λ f. sum_by-IsPermutation f xs ys moved ∙ sym (count_ordered f xs))
