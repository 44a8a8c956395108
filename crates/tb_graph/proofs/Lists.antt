-- Members of lists.
use Rattle.std.proofs.Common.{◌⊎◌, inl, inr, ℕ, zero, suc, ◌<◌, List, [], ◌∷◌, ◌++◌, length, get_or, refl, arith}
use Rattle.tb_graph.specs.Walk.{IsIn}

pub IsIn-left : (x : ℕ) (xs ys : List ℕ) → IsIn x xs → IsIn x (xs ++ ys)
IsIn-left x [] ys h = elim h [ ]
IsIn-left x (z ∷ zs) ys (inl e) = inl e
IsIn-left x (z ∷ zs) ys (inr h) = inr (IsIn-left x zs ys h)

pub IsIn-right : (x : ℕ) (xs ys : List ℕ) → IsIn x ys → IsIn x (xs ++ ys)
IsIn-right x [] ys h = h
IsIn-right x (z ∷ zs) ys h = inr (IsIn-right x zs ys h)

pub IsIn-append : (x : ℕ) (xs ys : List ℕ) → IsIn x (xs ++ ys) → IsIn x xs ⊎ IsIn x ys
IsIn-append x [] ys h = inr h
IsIn-append x (z ∷ zs) ys (inl e) = inl (inl e)
IsIn-append x (z ∷ zs) ys (inr h) =
    elim (IsIn-append x zs ys h) [ inl left ↦ inl (inr left) | inr right ↦ inr right ]

pub IsIn-at : (xs : List ℕ) (i : ℕ) → i < length xs → IsIn (get_or xs i 0) xs
IsIn-at [] i within = absurd (omega arith)
IsIn-at (x ∷ xs) zero within = inl refl
IsIn-at (x ∷ xs) (suc i) within = inr (IsIn-at xs i (omega arith))
