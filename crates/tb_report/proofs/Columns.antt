-- What the options of a placeholder write, as columns.
use Rattle.std.proofs.Common.{◌≡◌, ℕ, false, List, [], ◌∷◌, ◌++◌, ◌-◌, ◌^◌, ◌<◌, ◌≤◌, ◌==◌, zero, suc, length, replicate, decimal, ◌*◌, ◌/◌, ◌%◌, ◌&&◌, ℤ, nat_le, unsigned_abs, ap, refl, arith, inl, inr, if◌then◌else◌}
use Rattle.std.proofs.lemmas.Bool.{cases_Bool, cases_lt, ne_eqb, lt-ltb}
use Rattle.std.proofs.lemmas.List.{append-nil}
use Rattle.std.proofs.lemmas.Str.{encode_ascii}
use Rattle.std.proofs.lemmas.Fmt.{IsAscii-decimal, decimal_digit, decimal_step}
use Rattle.std.specs.Str.{IsAscii}
use Rattle.std.specs.List.{repeat}
use Rattle.std.specs.Char.{encode_utf8}
use Rattle.std.specs.Fmt.{char_count, take_chars, padded, padded_integral, format_spec, is_char_start}
use Rattle.tb_report.specs.Row.{right, left, three_digits, urgency_text, row_text, is_negative, unit}

take_all : (n : ℕ) (text : List ℕ) → length text ≤ n → take_chars n text ≡ text
unfolding take_chars
take_all n [] h = refl
take_all n (b ∷ bs) h =
    let some : (n == 0) ≡ false = ne_eqb n 0 (λ e. omega arith) in
    let rest : take_chars (n - 1) bs ≡ bs = take_all (n - 1) bs (omega arith) in
    let same : take_chars n bs ≡ bs = take_all n bs (omega arith) in
    elim (cases_Bool (is_char_start b)) [
      | inl e ↦ rw (e, some, rest) refl
      | inr e ↦ rw (e, same) refl
    ]

spaces : (n : ℕ) → repeat n (encode_utf8 32) ≡ replicate n 32
spaces zero = refl
spaces (suc n) = rw (encode_ascii 32 (omega arith)) (ap (λ t. 32 ∷ t) (rw (← encode_ascii 32 (omega arith)) (spaces n)))

pub in_right : (w : ℕ) (text : List ℕ) → length text ≤ 18446744073709551615 → padded (format_spec 32 3 0 w 18446744073709551615) text ≡ right w text
unfolding padded
in_right w text h =
    let whole = take_all 18446744073709551615 text h in
    let none : (w - char_count text) - (w - char_count text) ≡ 0 = omega arith in
    rw (whole, none, append-nil text, spaces (w - char_count text)) refl

pub in_left : (w : ℕ) (text : List ℕ) → length text ≤ 18446744073709551615 → padded (format_spec 32 1 0 w 18446744073709551615) text ≡ left w text
unfolding padded
in_left w text h =
    let whole = take_all 18446744073709551615 text h in
    let all : (w - char_count text) - 0 ≡ w - char_count text = omega arith in
    rw (whole, all, spaces (w - char_count text)) refl

ascii_count : (text : List ℕ) → IsAscii text → char_count text ≡ length text
unfolding char_count
ascii_count [] ascii = refl
ascii_count (b ∷ bs) ascii =
    let rest = ascii_count bs (λ i. ascii (suc i)) in
    let low = lt-ltb b 0x80 (ascii 0) in
    rw (low, rest) (omega arith)

pub number_right : (w n : ℕ) → n < 2 ^ 64 → padded_integral (format_spec 32 3 0 w 18446744073709551615) false [] (decimal n) ≡ right w (decimal n)
unfolding padded_integral char_count
number_right w n h =
    let count = ascii_count (decimal n) (IsAscii-decimal n h) in
    let p : w - length (decimal n) - 0 - 0 ≡ w - length (decimal n) = omega arith in
    let q : w - length (decimal n) - (w - length (decimal n)) ≡ 0 = omega arith in
    let room = repeat (w - length (decimal n)) (encode_utf8 32) in
    rw (count, p, q, append-nil room, append-nil room, append-nil room, spaces (w - length (decimal n)), append-nil (decimal n)) refl

-- what the placeholders of a row write
abbrev pub written : ℕ → List ℕ → List ℕ → List ℕ → List ℕ → List ℕ → List ℕ
written place urgency flags due project description =
    padded_integral (format_spec 32 3 0 5 18446744073709551615) false [] (decimal place) ++ 32 ∷ (padded (format_spec 32 3 0 8 18446744073709551615) urgency
    ++ 32 ∷ (flags ++ 32 ∷ (padded (format_spec 32 1 0 16 18446744073709551615) due ++ 32 ∷ (padded (format_spec 32 1 0 12 18446744073709551615) project
    ++ 32 ∷ (description ++ 10 ∷ [])))))

pub written_row : (place : ℕ) (z : ℤ) (urgency flags due project description : List ℕ) → place < 2 ^ 64 → length urgency < 2 ^ 64 → length due < 2 ^ 64 → length project < 2 ^ 64
    → urgency ≡ urgency_text z → written place urgency flags due project description ≡ row_text place z flags due project description
written_row place z urgency flags due project description p u d j is =
    let first = number_right 5 place p in
    let second = in_right 8 urgency (omega arith) in
    let third = in_left 16 due (omega arith) in
    let fourth = in_left 12 project (omega arith) in
    rw (first, second, third, fourth, is) refl

-- a number below 1000 with zeros before it
in_three : (n : ℕ) → n < 1000 → padded_integral (format_spec 32 0 4 3 18446744073709551615) false [] (decimal n) ≡ three_digits n
unfolding padded_integral char_count
in_three n h = elim (cases_lt n 10) [
  | inl one ↦
      let high : n / 100 ≡ 0 = omega arith in
      let middle : n / 10 % 10 ≡ 0 = omega arith in
      let low : n % 10 ≡ n = omega arith in
      rw (decimal_digit n one, high, middle, low) refl
  | inr ten ↦ elim (cases_lt n 100) [
    | inl two ↦
        let high : n / 100 ≡ 0 = omega arith in
        let middle : n / 10 % 10 ≡ n / 10 = omega arith in
        rw (decimal_step n ten (omega arith), decimal_digit (n / 10) (omega arith), high, middle) refl
    | inr three ↦
        let high : n / 10 / 10 ≡ n / 100 = omega arith in
        rw (decimal_step n ten (omega arith), decimal_step (n / 10) (omega arith) (omega arith), decimal_digit (n / 10 / 10) (omega arith), high) refl
  ]
]

abbrev pub digits_written : ℕ → List ℕ → List ℕ
digits_written n sign = sign ++ (decimal (n / 110376000) ++ 46 ∷ padded_integral (format_spec 32 0 4 3 18446744073709551615) false [] (decimal (n % 110376000 * 1000 / 110376000)))

pub written_urgency : (z : ℤ) (n : ℕ) (sign : List ℕ) → n ≡ unsigned_abs z → sign ≡ (if is_negative z && nat_le unit (n * 1000) then 45 ∷ [] else [])
    → digits_written n sign ≡ urgency_text z
written_urgency z n sign size is =
    let part = in_three (n % 110376000 * 1000 / 110376000) (omega arith) in
    rw (is, part, size) refl
