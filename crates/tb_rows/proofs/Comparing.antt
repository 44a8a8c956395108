-- Two lists are compared in order.
use Rattle.std.proofs.Common.{◌≡◌, ◌+◌, ◌<◌, ℕ, Bool, List, map, length, take, get_or, refl, sym, ap, ap₂, ◌∙◌, subst, Ordering, IsPermutation, [], ◌∷◌, ◌++◌}
use Rattle.std.specs.Bool.{Decides}
use Rattle.std.specs.List.Sorted.{IsSorted}
use Rattle.std.proofs.lemmas.List.{get_or-map, map_more}
use Rattle.std.proofs.lemmas.List.Sorted.{IsPermutation-refl, IsPermutation-sym, IsPermutation-trans}
use Rattle.tb_report.proofs.Sorting.{IsExactOrder, sorted_is}

module _ {X : Type 0} (cmp : X → X → Ordering) (order : IsExactOrder cmp) where
  -- the same items have one order
  same_order : (xs ys : List X) → IsPermutation xs ys → IsSorted cmp xs → IsSorted cmp ys → xs ≡ ys
  same_order xs ys same up_x up_y = sorted_is cmp order xs xs (IsPermutation-refl xs) up_x ∙ sym (sorted_is cmp order xs ys same up_y)

  -- whether their orders are equal tells whether two lists have the same items
  pub order_tells : (xs ys sorted_x sorted_y : List X) (r : Bool) → IsPermutation xs sorted_x → IsPermutation ys sorted_y → IsSorted cmp sorted_x → IsSorted cmp sorted_y
      → Decides r (sorted_x ≡ sorted_y) → Decides r (IsPermutation xs ys)
  order_tells xs ys sorted_x sorted_y r of_x of_y up_x up_y tells = (
    λ yes. IsPermutation-trans _ _ _ of_x (subst (λ l. IsPermutation l ys) (sym (tells.0 yes)) (IsPermutation-sym _ _ of_y)),
    λ same. tells.1 (same_order sorted_x sorted_y (IsPermutation-trans _ _ _ (IsPermutation-sym _ _ of_x) (IsPermutation-trans _ _ _ same of_y)) up_x up_y),
  )

module _ {X Y Z : Type 0} (f : X → Z) (g : Y → Z) (xs : List X) (ys : List Y) (k : ℕ) (x : X) (y : Y) (within_x : k < length xs) (within_y : k < length ys) (x_is : x ≡ get_or xs k x) (y_is : y ≡ get_or ys k y) where
  -- one item more
  pub images_next : map f (take k xs) ≡ map g (take k ys) → f x ≡ g y → map f (take (k + 1) xs) ≡ map g (take (k + 1) ys)
  images_next front here =
      map_more f xs k x within_x
      ∙ ap₂ (λ l z. l ++ z ∷ []) front (ap f (sym x_is) ∙ here ∙ ap g y_is)
      ∙ sym (map_more g ys k y within_y)

  -- equal images are equal at each place
  pub images_at : map f xs ≡ map g ys → f x ≡ g y
  images_at same =
      ap f x_is ∙ sym (get_or-map f xs k x (f x) within_x) ∙ ap (λ l. get_or l k (f x)) same
      ∙ get_or-map g ys k y (f x) within_y ∙ ap g (sym y_is)
