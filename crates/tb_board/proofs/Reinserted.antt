-- An item that is taken out and put back changed.
use Rattle.std.proofs.Common.{◌≡◌, ℕ, suc, zero, ◌<◌, List, [], ◌∷◌, length, set, insert, remove, refl, ap, arith}

pub reinserted : {A : Type 0} (xs : List A) (k : ℕ) (x : A) → k < length xs → insert (remove xs k) k x ≡ set xs k x
reinserted [] k x less = absurd (omega arith)
reinserted (y ∷ ys) zero x less = refl
reinserted (y ∷ ys) (suc k) x less = ap (λ zs. y ∷ zs) (reinserted ys k x (omega arith))
