-- Numbers that are whole, though they are written with a fraction.
use Rattle.std.specs.Prelude.{ℕ, ◌==◌, ℤ, pos, negsuc, Bool, false, ◌&&◌, int_lt, List, [], ◌∷◌, Option, Some, None, option_and_then, if◌then◌else◌}
use Rattle.std.specs.List.{list_all}
use Rattle.std.specs.Float.{Float, binary64, float_to_signed}
use Rattle.std.specs.Float.Ieee
use Rattle.std.specs.Int.{w64}
use Rattle.serde_json.specs.Data.{Num, unsigned, negative, float}
use Rattle.tb_json.specs.Numbers.{with_digit}
use Rattle.tb_cleaning.specs.Steps.{Text}

-- between -2^53 and 2^53, where each number has a float of its own
abbrev pub is_exact : ℤ → Bool
is_exact z = int_lt (negsuc 9007199254740991) z && int_lt z (pos 9007199254740992)

abbrev pub if_same : Float → ℤ → Option ℤ
if_same x z = if Ieee.eq (Ieee.of_int binary64 z) x && is_exact z then Some z else None

-- the whole number that a number with a fraction or an exponent is
-- Rule: cleaning makes numbers with a zero fraction whole. Tried by own_cleaning.sh.
abbrev pub whole_of : Num → Option ℤ
whole_of (unsigned n) = None
whole_of (negative z) = None
whole_of (float x) = if_same x (float_to_signed w64 x)

-- ---- texts of such numbers

abbrev pub all_zeros : Text → Bool
all_zeros digits = list_all (λ digit. digit == 48) digits

-- one digit or more, each of them 0
abbrev pub are_zeros : Text → Bool
are_zeros [] = false
are_zeros (c ∷ cs) = (c == 48) && all_zeros cs

abbrev pub if_zeros : ℕ → Text → Option ℕ
if_zeros n fraction = if are_zeros fraction then Some n else None

-- the number with the digits of a text after it, up to a point with zeros alone behind it
abbrev pub whole_on : ℕ → Text → Option ℕ
whole_on n [] = None
whole_on n (c ∷ cs) = if c == 46 then if_zeros n cs
    else option_and_then (λ m. whole_on m cs) (with_digit n c)

-- the whole number of 32 bits that a text with a fraction is, such as 2.000000
-- Rule: cleaning makes places with a zero fraction whole, also as texts. Tried by own_cleaning.sh.
abbrev pub whole_in : Text → Option ℕ
whole_in [] = None
whole_in (c ∷ cs) = option_and_then (λ n. whole_on n cs) (with_digit 0 c)
