-- Neighbours in order.
use Rattle.std.proofs.Common.{◌≡◌, ℕ, ◌+◌, ◌<◌, Bool, true, false, true≢false, List, [], ◌∷◌, Ordering, is_lt, length, get_or, refl, sym, ◌∙◌, ap, arith}
use Rattle.std.specs.Bool.{Decides}
use Rattle.std.specs.Cmp.{IsTotalOrder}
use Rattle.std.specs.List.{IsAllAdjacentAnswer}
use Rattle.std.specs.List.Sorted.{IsStrictlySortedBy}
use Rattle.std.proofs.lemmas.Map.Keys.{Less-from_sorted, sorted_from_all_adjacent}
use Rattle.tb_board.proofs.Pairs.{is_less}

sorted_up : {K : Type 0} {R : K → K → Ordering} → IsTotalOrder R → (xs : List K) → ((k : ℕ) (d : K) → k + 1 < length xs → true ≡ is_lt (R (get_or xs k d) (get_or xs (k + 1) d)))
    → IsStrictlySortedBy R xs
unfolding IsStrictlySortedBy
sorted_up order [] h = tt
sorted_up order (x ∷ xs) h = sorted_from_all_adjacent order (x ∷ xs) x (λ k within. is_less _ (sym (h k x within)))

sorted_not : {K : Type 0} (R : K → K → Ordering) (xs : List K) (k : ℕ) → k + 1 < length xs → ((d : K) → false ≡ is_lt (R (get_or xs k d) (get_or xs (k + 1) d)))
    → IsStrictlySortedBy R xs → ⊥
sorted_not R [] k within h sorted = omega (arith, within)
sorted_not R (x ∷ xs) k within h sorted =
    let less = Less-from_sorted R (x ∷ xs) k (k + 1) x sorted (omega arith) within in
    true≢false (sym (h x ∙ ap is_lt less))

-- whether each comes before the next tells whether all are in order
pub sorted_tells : {K : Type 0} {R : K → K → Ordering} → IsTotalOrder R → (xs : List K) (r : Bool) → IsAllAdjacentAnswer (λ x y b. b ≡ is_lt (R x y)) xs r → Decides r (IsStrictlySortedBy R xs)
sorted_tells order xs true h = (λ yes. sorted_up order xs h, λ sorted. refl)
sorted_tells {R = R} order xs false (k, within, h) = (λ yes. absurd (true≢false (sym yes)), λ sorted. absurd (sorted_not R xs k within h sorted))
