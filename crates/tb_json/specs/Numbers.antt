-- The number of an instance: a JSON number, or the same as decimal text.
use Rattle.std.specs.Prelude.{ℕ, ◌+◌, ◌-◌, ◌*◌, ◌&&◌, List, [], ◌∷◌, Option, Some, None, option_and_then, nat_le, if◌then◌else◌}
use Rattle.serde_json.specs.Data.{Data, null, boolean, number, string, array, object}
use Rattle.serde_json.specs.Find.{as_u64}

-- a number of 32 bits
abbrev pub small : ℕ → Option ℕ
small n = if nat_le n 4294967295 then Some n else None

-- the number with one more digit
abbrev pub with_digit : ℕ → ℕ → Option ℕ
with_digit n c = if nat_le 48 c && nat_le c 57 then small (n * 10 + (c - 48)) else None

-- the number with the digits of a text after it
abbrev pub with_digits : ℕ → List ℕ → Option ℕ
with_digits n [] = Some n
with_digits n (c ∷ cs) = option_and_then (λ m. with_digits m cs) (with_digit n c)

abbrev pub imask_form : Data → Option ℕ
imask_form null = None
imask_form (boolean b) = None
imask_form (number n) = option_and_then small (as_u64 n)
imask_form (string s) = with_digits 0 s
imask_form (array ds) = None
imask_form (object ms) = None
