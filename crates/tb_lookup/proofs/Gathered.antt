-- What a loop gathers of a state while it looks in the tables.
use Rattle.std.proofs.Common.{◌≡◌, ◌∙◌, ◌+◌, ◌<◌, ℕ, false, List, [], ◌∷◌, ◌++◌, Option, Some, length, take, get_or, refl, sym, ap, ap₂}
use Rattle.std.specs.List.{filter_map}
use Rattle.std.proofs.lemmas.List.{take_more}
use Rattle.std.proofs.lemmas.List.Elements.{filter_map-append}
use Rattle.sqlite.specs.State.{State as Database}
use Rattle.tb_calls.specs.Call.{State}
use Rattle.tb_sql.specs.Opening.{IsAsBefore}
use Rattle.tb_lookup.specs.Reopening.{OfState}
use Rattle.tb_lookup.proofs.Standing.{stored_again}

module _ {X Y : Type 0} where
  one_more : (f : X → Option Y) (xs : List X) (i : ℕ) (x : X) (ys : List Y) (y : Y) → i < length xs → x ≡ get_or xs i x → f x ≡ Some y → ys ≡ filter_map f (take i xs)
      → ys ++ y ∷ [] ≡ filter_map f (take (i + 1) xs)
  one_more f xs i x ys y within here is so_far =
      let one : filter_map f (get_or xs i x ∷ []) ≡ y ∷ [] = rw (sym here, is) refl in
      sym (ap (filter_map f) (take_more xs i x within) ∙ filter_map-append f (take i xs) (get_or xs i x ∷ []) ∙ ap₂ ◌++◌ (sym so_far) one)

  module _ (f : State → X → Option Y) (old mid new : Database) (first : IsAsBefore old mid) (idle : mid.in_transaction ≡ false) (second : IsAsBefore mid new) where
    -- one more is looked up, of which it is known that it is so
    pub gathered : (IsSo : State → X → Y → Type 0) → ((s : State) (x : X) (y : Y) → IsSo s x y → f s x ≡ Some y) → (xs : List X) (i : ℕ) (x : X) (ys : List Y) (y : Y) → i < length xs → x ≡ get_or xs i x
        → OfState old mid (λ s. ys ≡ filter_map (f s) (take i xs)) → OfState mid new (λ s. IsSo s x y) → OfState old new (λ s. ys ++ y ∷ [] ≡ filter_map (f s) (take (i + 1) xs))
    gathered IsSo gives xs i x ys y within here so_far one clean s stored =
        one_more (f s) xs i x ys y within here (gives s x y (one clean s (stored_again s old mid stored first idle))) (so_far (second.clean clean) s stored)

    -- for items that were themselves looked up
    pub gathered_of : (of_state : State → List X) (xs : List X) (ys : List Y) → OfState old mid (λ s. xs ≡ of_state s) → OfState mid new (λ s. ys ≡ filter_map (f s) xs)
        → OfState old new (λ s. ys ≡ filter_map (f s) (of_state s))
    gathered_of of_state xs ys found given clean s stored =
        given clean s (stored_again s old mid stored first idle) ∙ ap (filter_map (f s)) (found (second.clean clean) s stored)
