-- What a call that may fail returned, beside what its definition gives.
use Rattle.std.specs.Prelude.{◌≡◌, Result, Ok, Err}

-- The call returned what is expected, or failed as the expectation allows. Each crate says by `fails` what its errors
-- allow: an error of want of memory allows anything, and any other error the one that is expected.
abbrev pub Gives : {T E X : Type 0} → (E → Result T X → Type 0) → Result T E → Result T X → Type 0
Gives fails (Ok x) expected = expected ≡ Ok x
Gives fails (Err e) expected = fails e expected

-- one step after another, up to the first error
infixl 10 ◌>>=◌
abbrev pub ◌>>=◌ : {A B E : Type 0} → Result A E → (A → Result B E) → Result B E
(Ok x) >>= f = f x
(Err e) >>= f = Err e
