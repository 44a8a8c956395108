-- One more item of a list that is filtered and mapped.
use Rattle.std.proofs.Common.{◌≡◌, ◌∙◌, ◌+◌, ◌<◌, ℕ, Bool, true, false, List, [], ◌∷◌, ◌++◌, Option, filter, length, take, get_or, sym, ap, refl}
use Rattle.std.specs.List.{filter_map}
use Rattle.std.proofs.lemmas.List.{append-nil, take_more}
use Rattle.std.proofs.lemmas.List.Elements.{filter-append, filter_map-append}

module _ {X Y : Type 0} (f : X → Option Y) (p : X → Bool) (xs : List X) (i : ℕ) (d : X) (within : i < length xs) where
  abbrev so_many : ℕ → List Y
  so_many n = filter_map f (filter p (take n xs))

  grown : so_many (i + 1) ≡ so_many i ++ filter_map f (filter p (get_or xs i d ∷ []))
  grown =
      ap (λ l. filter_map f (filter p l)) (take_more xs i d within)
      ∙ ap (filter_map f) (filter-append p (take i xs) (get_or xs i d ∷ []))
      ∙ filter_map-append f (filter p (take i xs)) (filter p (get_or xs i d ∷ []))

  pub passed : (ys new : List Y) → p (get_or xs i d) ≡ true → ys ≡ filter_map f (filter p (take i xs)) → new ≡ ys ++ filter_map f (get_or xs i d ∷ []) → new ≡ filter_map f (filter p (take (i + 1) xs))
  passed ys new is so_far put =
      let one : filter p (get_or xs i d ∷ []) ≡ get_or xs i d ∷ [] = rw is refl in
      put ∙ ap (λ l. l ++ filter_map f (get_or xs i d ∷ [])) so_far ∙ ap (λ l. so_many i ++ filter_map f l) (sym one) ∙ sym grown

  pub left_out : (ys : List Y) → p (get_or xs i d) ≡ false → ys ≡ filter_map f (filter p (take i xs)) → ys ≡ filter_map f (filter p (take (i + 1) xs))
  left_out ys is so_far =
      let none : filter p (get_or xs i d ∷ []) ≡ [] = rw is refl in
      so_far ∙ sym (append-nil (so_many i)) ∙ ap (λ l. so_many i ++ filter_map f l) (sym none) ∙ sym grown
