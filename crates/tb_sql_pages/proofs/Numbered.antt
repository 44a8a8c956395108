-- What is found of rows that stand in their order, and of rows that have numbers without a gap.
use Rattle.std.proofs.Common.{◌≡◌, ◌∙◌, ◌+◌, ◌-◌, ◌<◌, ◌&&◌, ℕ, zero, suc, max, List, [], ◌∷◌, map, length, take, drop, get_or, cond, Bool, true, false, Option, Some, None, unwrap_or, refl, sym, ap, subst, arith, IsPermutation}
use Rattle.std.specs.Prelude.{filter, nat_le}
use Rattle.std.specs.List.{AllByRecursion}
use Rattle.std.proofs.lemmas.Bool.Decides.{nat_tests}
use Rattle.std.proofs.lemmas.List.{take_all}
use Rattle.std.proofs.lemmas.List.Sorted.{IsPermutation-map}
use Rattle.sqlite_trees.specs.Tree.{IsAscending}
use Rattle.sqlite_trees.proofs.ListLemmas.{IsPermutation-filter, ascending-filter}
use Rattle.tb_sql_tables.specs.Found.{AreFound}
use Rattle.tb_sql_pages.specs.Entries.{IsBelow}
use Rattle.tb_sql_pages.specs.Last.{AreLast, listed, last_of, AreNumberedFrom}
use Rattle.tb_sql_pages.proofs.Turned.{none_left}

-- where the rows can stand in strict order, the last of them are found
pub last_in_order : {X : Type 0} (IsBefore : X → X → Type 0) (count : ℕ) (rows found xs : List X) → AreLast IsBefore count rows found → IsPermutation xs rows → IsAscending IsBefore xs → found ≡ last_of count xs
last_in_order IsBefore count rows found xs are same rise = are.last ∙ ap (last_of count) (are.whole.in_order xs same rise)

-- what passes both tests
filter_both : {X : Type 0} (p q : X → Bool) (xs : List X) → filter (λ x. p x && q x) xs ≡ filter q (filter p xs)
filter_both p q [] = refl
filter_both p q (x ∷ xs) = elim (p x) as (λ b. cond (b && q x) (x ∷ filter (λ y. p y && q y) xs) (filter (λ y. p y && q y) xs) ≡ filter q (cond b (x ∷ filter p xs) (filter p xs))) [
  | true ↦ ap (λ l. cond (q x) (x ∷ l) l) (filter_both p q xs)
  | false ↦ filter_both p q xs
]

-- ---- rows with numbers

module _ {X : Type 0} (key : X → ℕ) where
  abbrev pub is_between : ℕ → ℕ → X → Bool
  is_between first last x = nat_le first (key x) && nat_le (key x) last

  -- those of a range of numbers stand side by side
  pub between_numbers : (first last n : ℕ) (xs : List X) → AreNumberedFrom key n xs → filter (is_between first last) xs ≡ take (last + 1 - max first n) (drop (first - n) xs)
  between_numbers first last n [] h = sym (ap (take (last + 1 - max first n)) (none_left (first - n) [] refl) ∙ take_all (last + 1 - max first n) [] (omega arith))
  between_numbers first last n (x ∷ xs) h = by (between_numbers first last (n + 1) xs h.1) (nat_le first n) (nat_le n last) refl refl
    where
      by : filter (is_between first last) xs ≡ take (last + 1 - max first (n + 1)) (drop (first - (n + 1)) xs) → (b c : Bool) → nat_le first n ≡ b → nat_le n last ≡ c
          → cond (is_between first last x) (x ∷ filter (is_between first last) xs) (filter (is_between first last) xs) ≡ take (last + 1 - max first n) (drop (first - n) (x ∷ xs))
      by more false c p q =
          let off : first - n ≡ suc (first - (n + 1)) = grind (arith, nat_tests) in
          let same : max first n ≡ max first (n + 1) = grind (arith, nat_tests) in
          rw (h.0, p, off, same) more
      by more true true p q =
          let here : first - n ≡ 0 = grind (arith, nat_tests) in
          let next : first - (n + 1) ≡ 0 = grind (arith, nat_tests) in
          let long : last + 1 - max first n ≡ suc (last + 1 - max first (n + 1)) = grind (arith, nat_tests) in
          rw (h.0, p, q, here, long) (ap (λ l. x ∷ l) (more ∙ ap (λ m. take (last + 1 - max first (n + 1)) (drop m xs)) next))
      by more true false p q =
          let none : last + 1 - max first n ≡ 0 = grind (arith, nat_tests) in
          let none_after : last + 1 - max first (n + 1) ≡ 0 = grind (arith, nat_tests) in
          rw (h.0, p, q, none) (more ∙ ap (λ m. take m (drop (first - (n + 1)) xs)) none_after)

  -- the last of them has the number of all
  abbrev pub last_from : ℕ → ℕ → Option ℕ
  last_from n zero = None
  last_from n (suc count) = Some (n + suc count)

  pub last_of_numbers : (n : ℕ) (xs : List X) → AreNumberedFrom key (n + 1) xs → last_of 1 (map key xs) ≡ listed (last_from n (length xs))
  last_of_numbers n [] h = none_left (0 - 1) [] refl
  last_of_numbers n (x ∷ []) h = ap (λ k. k ∷ []) h.0
  last_of_numbers n (x ∷ y ∷ xs) h =
      let step : length (map key (x ∷ y ∷ xs)) - 1 ≡ suc (length (map key (y ∷ xs)) - 1) = omega arith in
      let count : n + 1 + suc (length xs) ≡ n + suc (suc (length xs)) = omega arith in
      rw step (last_of_numbers (n + 1) (y ∷ xs) h.1 ∙ ap (λ k. k ∷ []) count)

  pub last_number : (n : ℕ) (xs : List X) → AreNumberedFrom key (n + 1) xs → (found : Option ℕ) → listed found ≡ last_of 1 (map key xs) → unwrap_or found n ≡ n + length xs
  last_number n xs h found e = known (length xs) found (e ∙ last_of_numbers n xs h)
    where
      known : (count : ℕ) (o : Option ℕ) → listed o ≡ listed (last_from n count) → unwrap_or o n ≡ n + count
      known zero None same = omega arith
      known zero (Some m) same = absurd (cc)
      known (suc count) None same = absurd (cc)
      known (suc count) (Some m) same = ap (λ l. get_or l 0 0) same

  -- ---- they stand in the order of their numbers

  above : (n m : ℕ) (xs : List X) → AreNumberedFrom key n xs → m < n → AllByRecursion (λ x. m < key x) xs
  above n m [] h low = tt
  above n m (x ∷ xs) h low = (omega (arith, h.0, low), above (n + 1) m xs h.1 (omega (arith, low)))

  pub numbers_rise : (n : ℕ) (xs : List X) → AreNumberedFrom key n xs → IsAscending (λ a b. key a < key b) xs
  numbers_rise n [] h = tt
  numbers_rise n (x ∷ xs) h = (subst (λ m. AllByRecursion (λ y. m < key y) xs) (sym h.0) (above (n + 1) n xs h.1 (omega arith)), numbers_rise (n + 1) xs h.1)

  above_alone : (m : ℕ) (xs : List X) → AllByRecursion (λ x. m < key x) xs → AllByRecursion (λ k. m < k) (map key xs)
  above_alone m [] h = tt
  above_alone m (x ∷ xs) h = (h.0, above_alone m xs h.1)

  rise_alone : (xs : List X) → IsAscending (λ a b. key a < key b) xs → IsAscending IsBelow (map key xs)
  rise_alone [] h = tt
  rise_alone (x ∷ xs) h = (above_alone (key x) xs h.0, rise_alone xs h.1)

  -- The last number that is found is the count of the rows.
  pub last_is_count : (rows xs : List X) (found : Option ℕ) → AreLast IsBelow 1 (map key rows) (listed found) → IsPermutation xs rows → AreNumberedFrom key 1 xs → unwrap_or found 0 ≡ length xs
  last_is_count rows xs found are same h =
      let count = last_number 0 xs h found (last_in_order IsBelow 1 (map key rows) (listed found) (map key xs) are (IsPermutation-map key xs rows same) (rise_alone xs (numbers_rise 1 xs h))) in
      omega (arith, count)

  module _ (mine : X → Bool) (n : ℕ) (rows found xs : List X) (same : IsPermutation xs (filter mine rows)) (h : AreNumberedFrom key n xs) where
    part_same : (part : X → Bool) → IsPermutation (filter part xs) (filter (λ x. mine x && part x) rows)
    part_same part = subst (IsPermutation (filter part xs)) (sym (filter_both mine part rows)) (IsPermutation-filter part xs (filter mine rows) same)

    part_rises : (part : X → Bool) → IsAscending (λ a b. key a < key b) (filter part xs)
    part_rises part = ascending-filter (λ a b. key a < key b) part xs (numbers_rise n xs h)

    -- What is found of a range of numbers is a part of the rows.
    pub range_is_part : (first last : ℕ) → AreFound (λ a b. key a < key b) (filter (λ x. mine x && is_between first last x) rows) found → found ≡ take (last + 1 - max first n) (drop (first - n) xs)
    range_is_part first last are = are.in_order (filter (is_between first last) xs) (part_same (is_between first last)) (part_rises (is_between first last)) ∙ between_numbers first last n xs h

    -- The last ones that are found of some of the rows are the last of these, in their order.
    pub last_of_part : (part : X → Bool) (count : ℕ) → AreLast (λ a b. key a < key b) count (filter (λ x. mine x && part x) rows) found → found ≡ last_of count (filter part xs)
    last_of_part part count are = last_in_order (λ a b. key a < key b) count (filter (λ x. mine x && part x) rows) found (filter part xs) are (part_same part) (part_rises part)
