-- What a clock gives.
use Rattle.std.specs.Prelude.{◌≡◌, ℕ, List, [], ◌∷◌, ◌++◌, Option, None}
use Rattle.std.proofs.Common.{subst}

-- what a clock gives next whose moments are known, and what it has after that; at its end it gives no moment
abbrev pub next : List (Option ℕ) → Option ℕ
next [] = None
next (at ∷ more) = at

abbrev pub later : List (Option ℕ) → List (Option ℕ)
later [] = []
later (at ∷ more) = more

-- such a clock gave these moments, in this order
abbrev pub Gave : List (Option ℕ) → List (Option ℕ) → List (Option ℕ) → Type 0
Gave [] old new = new ≡ old
Gave (at ∷ given) old new = (at ≡ next old) × Gave given (later old) new

pub gave_more : (first more a b c : List (Option ℕ)) → Gave first a b → Gave more b c
    → Gave (first ++ more) a c
gave_more [] more a b c is gave = subst (λ from. Gave more from c) is gave
gave_more (at ∷ first) more a b c is gave = (is.0, gave_more first more (later a) b c is.1 gave)
