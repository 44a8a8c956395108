-- What is found from the last row on, turned round.
use Rattle.std.proofs.Common.{◌≡◌, ◌∙◌, ◌-◌, ◌≤◌, ◌++◌, ℕ, zero, suc, List, [], ◌∷◌, map, reverse, length, take, drop, Bool, true, false, Option, Some, None, refl, sym, ap, subst, arith}
use Rattle.std.specs.Prelude.{nat_le}
use Rattle.std.proofs.lemmas.Bool.Decides.{nat_tests}
use Rattle.std.proofs.lemmas.List.{map-append, reverse-append, reverse-reverse, length-reverse, take_all, take-append-le}
use Rattle.std.proofs.lemmas.List.Sorted.{IsPermutation-reverse, IsPermutation-sym, IsPermutation-trans}
use Rattle.sqlite_trees.specs.Tree.{IsAscending}
use Rattle.sqlite_trees.proofs.ListLemmas.{ascending-append, all_weaker, all-permutation}
use Rattle.tb_sql_tables.specs.Found.{AreFound}
use Rattle.tb_sql_pages.specs.Last.{AreLast, listed, last_of}

pub falls : {X : Type 0} (R : X → X → Type 0) (xs : List X) → IsAscending R xs → IsAscending (λ a b. R b a) (reverse xs)
falls R [] up = tt
falls R (x ∷ xs) up =
    subst (IsAscending (λ a b. R b a)) (sym (reverse-append (x ∷ []) xs))
    (ascending-append _ (reverse xs) (x ∷ []) (falls R xs up.1) (tt, tt) (all_weaker (R x) _ (λ y h. (h, tt)) (reverse xs) (all-permutation (R x) xs _ (IsPermutation-reverse xs) up.0)))

pub none_left : {X : Type 0} (n : ℕ) (xs : List X) → xs ≡ [] → drop n xs ≡ []
none_left zero xs e = e
none_left (suc n) [] e = refl
none_left (suc n) (x ∷ xs) e = absurd (cc)

pub last_reversed : {X : Type 0} (n : ℕ) (xs : List X) → reverse (take n (reverse xs)) ≡ last_of n xs
last_reversed n [] = ap reverse (take_all n [] (omega arith)) ∙ sym (none_left (0 - n) [] refl)
last_reversed n (x ∷ xs) = by (last_reversed n xs) (nat_le n (length xs)) refl
  where
    by : reverse (take n (reverse xs)) ≡ last_of n xs → (b : Bool) → nat_le n (length xs) ≡ b → reverse (take n (reverse (x ∷ xs))) ≡ drop (suc (length xs) - n) (x ∷ xs)
    by rest true e =
        let within : n ≤ length xs = grind (arith, nat_tests) in
        let less : suc (length xs) - n ≡ suc (length xs - n) = omega arith in
        rw less (ap (λ l. reverse (take n l)) (reverse-append (x ∷ []) xs) ∙ ap reverse (take-append-le n (reverse xs) (x ∷ []) (subst (λ m. n ≤ m) (sym (length-reverse xs)) within)) ∙ rest)
    by rest false e =
        let none : suc (length xs) - n ≡ 0 = grind (arith, nat_tests) in
        let short : length (reverse (x ∷ xs)) ≤ n = subst (λ m. m ≤ n) (sym (length-reverse (x ∷ xs))) (grind (arith, nat_tests)) in
        rw none (ap reverse (take_all n (reverse (x ∷ xs)) short) ∙ reverse-reverse (x ∷ xs))

-- turned round, falling rows are found in rising order
pub found_turned : {X : Type 0} (IsBefore : X → X → Type 0) (rows found : List X) → AreFound (λ a b. IsBefore b a) rows found → AreFound IsBefore rows (reverse found)
found_turned IsBefore rows found are = record {
  same = IsPermutation-trans rows found (reverse found) are.same (IsPermutation-reverse found);
  in_order = λ ordered permuted rise.
      let turned = IsPermutation-trans (reverse ordered) ordered rows (IsPermutation-sym ordered (reverse ordered) (IsPermutation-reverse ordered)) permuted in
      ap reverse (are.in_order (reverse ordered) turned (falls IsBefore ordered rise)) ∙ reverse-reverse ordered;
}

-- the first of falling rows are the last of rising ones
pub last_turned : {X : Type 0} (IsBefore : X → X → Type 0) (count : ℕ) (rows all found : List X) → AreFound (λ a b. IsBefore b a) rows all → found ≡ take count all → AreLast IsBefore count rows (reverse found)
last_turned IsBefore count rows all found are first = record {
  all = reverse all;
  whole = found_turned IsBefore rows all are;
  last = ap reverse (first ∙ ap (take count) (sym (reverse-reverse all))) ∙ last_reversed count (reverse all);
}

pub map-reverse : {X Y : Type 0} (f : X → Y) (xs : List X) → map f (reverse xs) ≡ reverse (map f xs)
map-reverse f [] = refl
map-reverse f (x ∷ xs) =
    ap (map f) (reverse-append (x ∷ []) xs) ∙ map-append f (reverse xs) (x ∷ []) ∙ ap (λ l. l ++ f x ∷ []) (map-reverse f xs) ∙ sym (reverse-append (f x ∷ []) (map f xs))

-- one row turned round
pub listed_turned : {X : Type 0} (o : Option X) → reverse (listed o) ≡ listed o
listed_turned None = refl
listed_turned (Some x) = refl
