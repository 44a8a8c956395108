-- Lists with the same images in another order.
use Rattle.std.proofs.Common.{◌≡◌, ◌<◌, ◌==◌, ℕ, Bool, true, false, List, [], ◌∷◌, ◌++◌, filter, map, length, get_or, set, refl, sym, ap, ap₂, ◌∙◌, subst, arith, IsPermutation}
use Rattle.std.specs.List.{swap, AllByRecursion}
use Rattle.std.proofs.Math.ListN.{get_or-map}
use Rattle.std.proofs.lemmas.Bool.{eq-eqb}
use Rattle.std.proofs.lemmas.List.{append_assoc, length-map, map-set}
use Rattle.std.proofs.lemmas.List.Elements.{filter-append}
use Rattle.std.proofs.lemmas.List.Sorted.{IsPermutation-keeps, IsPermutation-refl, IsPermutation-swap, IsPermutation-sym, IsPermutation-trans}
use Rattle.sqlite_trees.specs.Tree.{IsAscending}
use Rattle.sqlite_keyed.proofs.ListLemmas.{all_both, all_weaker, all-append, ascending-map, ascending_from_map, filter_none}
use Rattle.tb_sql_tables.specs.Found.{AreFound}
use Rattle.tb_rows.proofs.Lists.{differ}

module _ {A B : Type 0} (f : A → B) where
  image_swap : (ys : List A) (i j : ℕ) → map f (swap ys i j) ≡ swap (map f ys) i j
  image_swap [] i j = refl
  image_swap (d ∷ ys) i j =
      map-set f (set (d ∷ ys) i (get_or (d ∷ ys) j d)) j (get_or (d ∷ ys) i d)
      ∙ ap₂ (λ l z. set l j z)
      (map-set f (d ∷ ys) i (get_or (d ∷ ys) j d) ∙ ap (λ z. set (map f (d ∷ ys)) i z) (sym (get_or-map f (d ∷ ys) j d)))
      (sym (get_or-map f (d ∷ ys) i d))

  -- the items in the order of their images
  record Lifted (xs : List A) (images : List B) : Type 0 where
    items : List A
    same : IsPermutation xs items
    image : map f items ≡ images

  lifted_swap : (xs : List A) (l : List B) (i j : ℕ) → i < length l → j < length l → Lifted xs l → Lifted xs (swap l i j)
  lifted_swap xs l i j within_i within_j from =
      let size : length from.items ≡ length l = sym (length-map from.items f) ∙ ap length from.image in
      record {
        items = swap from.items i j;
        same = IsPermutation-trans _ _ _ from.same (IsPermutation-swap from.items (swap from.items i j) i j (omega (arith, size, within_i)) (omega (arith, size, within_j)) refl);
        image = image_swap from.items i j ∙ ap (λ z. swap z i j) from.image;
      }

  lifted : (xs : List A) (images : List B) → IsPermutation (map f xs) images → Lifted xs images
  lifted xs images same =
      IsPermutation-keeps (map f xs) (Lifted xs) (record { items = xs; same = IsPermutation-refl xs; image = refl }) (lifted_swap xs) images same

  -- what is found in order has the images of those that stand in order
  pub images_found : (R : B → B → Type 0) (table found own : List A) → IsPermutation (map f table) (map f own) → IsAscending (λ a b. R (f a) (f b)) own → AreFound (λ a b. R (f a) (f b)) table found
      → map f found ≡ map f own
  images_found R table found own same up are =
      let l = lifted table (map f own) same in
      let rises = ascending_from_map R f l.items (subst (IsAscending R) (sym l.image) (ascending-map R f own up)) in
      ap (map f) (are.in_order l.items (IsPermutation-sym _ _ l.same) rises) ∙ l.image

-- ---- one item of each key

module _ {A : Type 0} (key : A → ℕ) where
  abbrev pub has_key : ℕ → A → Bool
  has_key n a = key a == n

  abbrev pub IsAlone : List A → A → Type 0
  IsAlone all x = filter (has_key (key x)) all ≡ x ∷ []

  one_alone : (before after : List A) (x : A) → AllByRecursion (λ a. key a < key x) before → AllByRecursion (λ a. key x < key a) after → IsAlone (before ++ x ∷ after) x
  one_alone before after x low high =
      let here : has_key (key x) x ≡ true = eq-eqb (key x) (key x) refl in
      filter-append (has_key (key x)) before (x ∷ after)
      ∙ ap₂ ◌++◌ (filter_none _ before (all_weaker _ (λ a. has_key (key x) a ≡ false) (λ a lt. differ (key a) (key x) (λ same. omega arith)) before low))
      (rw here (ap (λ l. x ∷ l) (filter_none _ after (all_weaker _ (λ a. has_key (key x) a ≡ false) (λ a lt. differ (key a) (key x) (λ same. omega arith)) after high))))

  alone_after : (before xs : List A) → AllByRecursion (λ x. AllByRecursion (λ a. key a < key x) before) xs → IsAscending (λ a b. key a < key b) xs → AllByRecursion (IsAlone (before ++ xs)) xs
  alone_after before [] low up = tt
  alone_after before (x ∷ xs) low up =
      let later : AllByRecursion (λ y. AllByRecursion (λ a. key a < key y) (before ++ x ∷ [])) xs =
      all_both (λ y. AllByRecursion (λ a. key a < key y) before) (λ y. key x < key y) (λ y. AllByRecursion (λ a. key a < key y) (before ++ x ∷ []))
      (λ y below above. all-append (λ a. key a < key y) before (x ∷ []) below (above, tt)) xs low.1 up.0 in
      (one_alone before xs x low.0 up.0, subst (λ l. AllByRecursion (IsAlone l) xs) (append_assoc before (x ∷ []) xs) (alone_after (before ++ x ∷ []) xs later up.1))

  -- where the keys rise each item is alone with its key
  pub all_alone : (xs : List A) → IsAscending (λ a b. key a < key b) xs → AllByRecursion (IsAlone xs) xs
  all_alone xs up = alone_after [] xs (nothing_below xs) up
    where
      nothing_below : (ys : List A) → AllByRecursion (λ x. AllByRecursion (λ a. key a < key x) []) ys
      nothing_below [] = tt
      nothing_below (y ∷ ys) = (tt, nothing_below ys)
