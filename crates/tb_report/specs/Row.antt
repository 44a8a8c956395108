-- A line of the listing. Widths are counted in characters.
use Rattle.std.specs.Prelude.{ℕ, ℤ, pos, negsuc, Bool, true, false, List, [], ◌∷◌, ◌++◌, ◌+◌, ◌-◌, ◌*◌, ◌/◌, ◌%◌, ◌&&◌, ◌||◌, ◌==◌, map, replicate, decimal, nat_le, unsigned_abs, if◌then◌else◌}
use Rattle.std.specs.Char.{is_ascii_control, is_control}
use Rattle.std.specs.Fmt.{char_count}
use Rattle.std.specs.Str.{chars, encode_utf8_all}

-- a text in a column of at least so many characters, at its right or at its left
abbrev pub right : ℕ → List ℕ → List ℕ
right width text = replicate (width - char_count text) 32 ++ text

abbrev pub left : ℕ → List ℕ → List ℕ
left width text = text ++ replicate (width - char_count text) 32

-- urgency is counted in parts, of which this many make one
abbrev pub unit : ℕ
unit = 110376000

-- a number below 1000 in three digits
abbrev pub three_digits : ℕ → List ℕ
three_digits n = (48 + n / 100) ∷ (48 + n / 10 % 10) ∷ (48 + n % 10) ∷ []

abbrev pub is_negative : ℤ → Bool
is_negative (pos n) = false
is_negative (negsuc n) = true

-- an urgency with three decimals, cut towards zero; a minus sign stands only where a digit isn't zero
abbrev pub urgency_text : ℤ → List ℕ
urgency_text z =
    let n = unsigned_abs z in
    (if is_negative z && nat_le unit (n * 1000) then 45 ∷ [] else [])
    ++ (decimal (n / unit) ++ 46 ∷ three_digits (n % unit * 1000 / unit))

-- Rule: a listing has a space for each control character, U+0000 to U+001F and U+007F to U+009F. Tried by controls_are_listed.
abbrev pub shown_char : ℕ → ℕ
shown_char c = if is_control c then 32 else c

-- a control character of ASCII, or the byte with which U+0080 to U+00BF begin
abbrev pub may_be_control : ℕ → Bool
may_be_control byte = is_ascii_control byte || (byte == 0xC2)

unfoldable pub shown_text : List ℕ → List ℕ
shown_text text = encode_utf8_all (map shown_char (chars text))

-- place, urgency, flags, due, project and description
abbrev pub row_text : ℕ → ℤ → List ℕ → List ℕ → List ℕ → List ℕ → List ℕ
row_text place urgency flags due project description =
    right 5 (decimal place) ++ 32
    ∷ (right 8 (urgency_text urgency) ++ 32
    ∷ (flags ++ 32 ∷ (left 16 due ++ 32 ∷ (left 12 project ++ 32 ∷ (description ++ 10 ∷ [])))))
