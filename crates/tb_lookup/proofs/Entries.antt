-- Entries of a map in any order.
use Rattle.std.proofs.Common.{◌≡◌, ◌∙◌, Bool, true, false, cond, ◌&&◌, List, [], ◌∷◌, Option, Some, None, Ordering, true≢false, refl, sym, ap, subst, IsPermutation}
use Rattle.std.specs.Prelude.{T}
use Rattle.std.specs.List.{AllByRecursion}
use Rattle.std.specs.Ordering.{eq_by_cmp, is_eq, is_lt}
use Rattle.std.specs.Cmp.{IsTotalOrder, eq_by_cmp_equiv}
use Rattle.std.specs.declared.cmp.Ordering.TheVariants.{Less, Equal, Greater}
use Rattle.std.specs.FinMap.{FinMap, IsAntisymmetric, entries, entries-insert, entries_sorted, find, from_entries, get, get-entries, get-from_entries, insert, is_sorted, put, same_map}
use Rattle.std.specs.FinMap.Entries.{below_all}
use Rattle.std.proofs.lemmas.List.Sorted.{IsPermutation-refl, IsPermutation-cons, IsPermutation-middle, IsPermutation-sym, IsPermutation-trans, All-permutation}
use Rattle.std.proofs.lemmas.List.Elements.{All-from_recursion, recursion_from_All}
use Rattle.sqlite_trees.specs.Tree.{IsAscending}
use Rattle.sqlite_trees.proofs.ListLemmas.{along_permutation}

both_true : (a b : Bool) → T (a && b) → T a × T b
both_true true b h = (tt, h)
both_true false b h = absurd h

module _ {K X : Type 0} (R : K → K → Ordering) (o : IsTotalOrder R) where
  -- the keys differ
  abbrev pub AreApart : List (K × X) → Type 0
  AreApart = IsAscending (λ a b. eq_by_cmp R a.0 b.0 ≡ false)

  -- the same entries, and where their keys differ, the same is found
  abbrev FindsSame : List (K × X) → List (K × X) → Type 0
  FindsSame xs ys = IsPermutation xs ys × (AreApart xs → AreApart ys × ((q : K) → find R q ys ≡ find R q xs))

  all_in : (P : K × X → Type 0) (xs ys : List (K × X)) → IsPermutation xs ys → AllByRecursion P xs → AllByRecursion P ys
  all_in P xs ys same all = recursion_from_All P ys (All-permutation P xs ys same (All-from_recursion P xs all))

  under : (x : K × X) (xs ys : List (K × X)) → FindsSame xs ys → FindsSame (x ∷ xs) (x ∷ ys)
  under x xs ys h = (
    IsPermutation-cons x xs ys h.0,
    λ apart.
        let later = h.1 apart.1 in
        ((all_in (λ b. eq_by_cmp R x.0 b.0 ≡ false) xs ys h.0 apart.0, later.0), λ q. ap (cond (eq_by_cmp R q x.0) (Some x.1)) (later.1 q)),
  )

  turned : (x y : K × X) (rest : Option X) (q : K) → eq_by_cmp R x.0 y.0 ≡ false → cond (eq_by_cmp R q y.0) (Some y.1) (cond (eq_by_cmp R q x.0) (Some x.1) rest) ≡ cond (eq_by_cmp R q x.0) (Some x.1) (cond (eq_by_cmp R q y.0) (Some y.1) rest)
  turned x y rest q apart = go (eq_by_cmp R q x.0) (eq_by_cmp R q y.0) (λ a b. true≢false (sym b ∙ (eq_by_cmp_equiv o).congr q x.0 y.0 a ∙ apart))
    where
      go : (a b : Bool) → (a ≡ true → b ≡ true → ⊥) → cond b (Some y.1) (cond a (Some x.1) rest) ≡ cond a (Some x.1) (cond b (Some y.1) rest)
      go true true h = absurd (h refl refl)
      go true false h = refl
      go false b h = refl

  turn : (x y : K × X) (xs : List (K × X)) → FindsSame (x ∷ y ∷ xs) (y ∷ x ∷ xs)
  turn x y xs = (
    IsPermutation-sym _ _ (IsPermutation-middle (y ∷ []) x xs),
    λ apart.
        (((((eq_by_cmp_equiv o).symm y.0 x.0 ∙ apart.0.0), apart.1.0), (apart.0.1, apart.1.1)), λ q. turned x y (find R q xs) q apart.0.0),
  )

  same_found : (xs ys : List (K × X)) → IsPermutation xs ys → FindsSame xs ys
  same_found = along_permutation FindsSame (λ xs. (IsPermutation-refl xs, λ apart. (apart, λ q. refl))) under turn
      (λ xs ys zs p q. (
        IsPermutation-trans xs ys zs p.0 q.0,
        λ apart. let a = p.1 apart in let b = q.1 a.0 in (b.0, λ k. b.1 k ∙ a.1 k),
      ))

  above_apart : (x : K) (es : List (K × X)) → T (below_all R x es) → AllByRecursion (λ b. eq_by_cmp R x b.0 ≡ false) es
  above_apart x [] h = tt
  above_apart x (e ∷ es) h = let h2 = both_true (is_lt (R x e.0)) (below_all R x es) h in (less (R x e.0) h2.0, above_apart x es h2.1)
    where
      less : (r : Ordering) → T (is_lt r) → is_eq r ≡ false
      less Less h = refl
      less Equal h = absurd h
      less Greater h = absurd h

  pub sorted_apart : (es : List (K × X)) → T (is_sorted R es) → AreApart es
  sorted_apart [] h = tt
  sorted_apart (e ∷ es) h = let h2 = both_true (below_all R e.0 es) (is_sorted R es) h in (above_apart e.0 es h2.0, sorted_apart es h2.1)

  -- what is found among a map's entries in any order is what the map has
  found_in : (m : FinMap R X) (es : List (K × X)) → IsPermutation (entries m) es → (q : K) → find R q es ≡ get m q
  found_in m es same q = ((same_found (entries m) es same).1 (sorted_apart (entries m) (entries_sorted m))).1 q ∙ sym (get-entries m q)

  -- a map is made of its entries in any order
  pub map_of_entries : IsAntisymmetric R → (m : FinMap R X) (es : List (K × X)) → IsPermutation (entries m) es → from_entries {R = R} es ≡ m
  map_of_entries anti m es same = same_map o anti (from_entries es) m (λ q. get-from_entries o es q ∙ found_in m es same q)

  -- two maps of the same entries are one
  pub same_entries : IsAntisymmetric R → (m n : FinMap R X) → IsPermutation (entries m) (entries n) → m ≡ n
  same_entries anti m n same = same_map o anti m n (λ q. sym (found_in m (entries n) same q) ∙ sym (get-entries n q))

  put_permutes : (k : K) (v : X) (es : List (K × X)) → find R k es ≡ None → IsPermutation ((k, v) ∷ es) (put R k v es)
  put_permutes k v [] none = IsPermutation-refl _
  put_permutes k v (e ∷ es) none = go (R k e.0) refl none (put_permutes k v es)
    where
      go : (r : Ordering) → R k e.0 ≡ r → cond (is_eq r) (Some e.1) (find R k es) ≡ None → (find R k es ≡ None → IsPermutation ((k, v) ∷ es) (put R k v es))
          → IsPermutation ((k, v) ∷ e ∷ es) (Rattle.std.specs.FinMap.Entries.by_order r ((k, v) ∷ e ∷ es) ((e.0, v) ∷ es) (e ∷ put R k v es))
      go Less is h later = IsPermutation-refl _
      go Equal is h later = absurd (cc)
      go Greater is h later = IsPermutation-trans _ _ _ (IsPermutation-sym _ _ (IsPermutation-middle (e ∷ []) (k, v) es)) (IsPermutation-cons e _ _ (later h))

  -- a new entry goes among the others
  pub insert_permutes : (m : FinMap R X) (k : K) (v : X) → get m k ≡ None → IsPermutation ((k, v) ∷ entries m) (entries (insert m k v))
  insert_permutes m k v none = subst (IsPermutation _) (sym (entries-insert o m k v)) (put_permutes k v (entries m) (sym (get-entries m k) ∙ none))
