-- A number is what a text of digits parses as.
use Rattle.std.proofs.Common.{◌≡◌, ℕ, ◌^◌, ◌<◌, ◌≤◌, true, false, List, [], ◌∷◌, length, nat_lt, nat_le, slice_index, Option, Some, None, option_and_then, if◌then◌else◌, Result, Ok, Err, refl, inl, inr, arith}
use Rattle.std.specs.Result.{result_ok}
use Rattle.std.specs.Str.{all_ascii_digits}
use Rattle.std.specs.Str.Parse.{digits_value, ParsesUnsigned}
use Rattle.std.proofs.lemmas.Bool.{cases_Bool, ltb-true}
use Rattle.std.proofs.lemmas.Str.Parse.{IsNumeralModel, numerals_by_value, tells_all_ascii_digits, parse_plain}
use Rattle.tb_values.specs.Numerals.{numeral, number_to}

own : IsNumeralModel (λ ds. all_ascii_digits ds ≡ true) (digits_value 10)
own = numerals_by_value _ tells_all_ascii_digits

pub no_number : (limit : ℕ) (text : List ℕ) → nat_lt 48 (slice_index text 0) ≡ false → None ≡ number_to limit text
unfolding numeral
no_number limit text small = rw small refl

not_empty : (text : List ℕ) → 48 < slice_index text 0 → 0 < length text
not_empty [] above = absurd (omega arith)
not_empty (b ∷ bs) above = omega arith

pub parsed : {E : Type 0} (text : List ℕ) (r : Result ℕ E) → nat_lt 48 (slice_index text 0) ≡ true → ParsesUnsigned 32 10 text r → result_ok r ≡ number_to 4294967295 text
unfolding numeral
parsed {E} text (Ok n) large parses =
    let above : 48 < slice_index text 0 = ltb-true 48 (slice_index text 0) large in
    let is = parse_plain own {E = E} 32 text (Ok n) parses (λ plus. omega arith) in
    let fits : nat_le (digits_value 10 text) 4294967295 ≡ true = grind arith in
    rw (large, is.0.0, fits, is.1) refl
parsed {E} text (Err e) large parses =
    let above : 48 < slice_index text 0 = ltb-true 48 (slice_index text 0) large in
    let not_so = parse_plain own {E = E} 32 text (Err e) parses (λ plus. omega arith) in
    elim (cases_Bool (all_ascii_digits text)) [
      | inr other ↦ rw (large, other) refl
      | inl digits ↦ elim (cases_Bool (nat_le (digits_value 10 text) 4294967295)) [
        | inr wide ↦ rw (large, digits, wide) refl
        | inl fits ↦ absurd (not_so (digits, not_empty text above, grind arith))
      ]
    ]
