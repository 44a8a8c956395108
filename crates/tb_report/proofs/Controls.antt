-- A text without a byte of a control character is shown as it is.
use Rattle.std.proofs.Common.{◌≡◌, ℕ, Bool, true, false, List, [], ◌∷◌, ◌&&◌, ◌≤◌, nat_le, map, refl, sym, ap, ◌∙◌, arith, inl, inr}
use Rattle.std.specs.Char.{encode_utf8, is_control}
use Rattle.std.specs.List.{list_any}
use Rattle.std.specs.Str.{IsUtf8, chars, encode_utf8_all}
use Rattle.std.proofs.lemmas.Bool.{agree_below, agree_below_at, and_right, cases_lt, lt-leb, or_from, or_parts}
use Rattle.std.proofs.lemmas.List.Folds.{list_any-append}
use Rattle.std.proofs.lemmas.Str.{encodes-chars}
use Rattle.tb_report.specs.Row.{may_be_control, shown_char, shown_text}

abbrev may_encode_control : ℕ → Bool
may_encode_control c = list_any may_be_control (encode_utf8 c)

low_controls : agree_below is_control may_encode_control 160 ≡ true
unfolding encode_utf8
low_controls = refl

no_wide_control : (c : ℕ) → 160 ≤ c → is_control c ≡ false
no_wide_control c wide =
    or_from (nat_le 0 c && nat_le c 0x1F) (nat_le 0x7F c && nat_le c 0x9F)
    (and_right (nat_le 0 c) (nat_le c 0x1F) (lt-leb c 0x1F (omega (arith, wide))))
    (and_right (nat_le 0x7F c) (nat_le c 0x9F) (lt-leb c 0x9F (omega (arith, wide))))

-- a character with no byte that may be of a control character is none
no_control : (c : ℕ) → may_encode_control c ≡ false → is_control c ≡ false
no_control c none = elim (cases_lt c 160) [
  | inl low ↦ agree_below_at is_control may_encode_control 160 c low_controls low ∙ none
  | inr wide ↦ no_wide_control c wide
]

same_chars : (cs : List ℕ) → list_any may_be_control (encode_utf8_all cs) ≡ false → map shown_char cs ≡ cs
same_chars [] none = refl
same_chars (c ∷ cs) none =
    let parts = or_parts (may_encode_control c) (list_any may_be_control (encode_utf8_all cs)) (sym (list_any-append may_be_control (encode_utf8 c) (encode_utf8_all cs)) ∙ none) in
    rw (no_control c parts.0) (ap (λ ds. c ∷ ds) (same_chars cs parts.1))

pub shown_same : (text : List ℕ) → IsUtf8 text → list_any may_be_control text ≡ false → shown_text text ≡ text
unfolding shown_text
shown_same text utf8 none =
    let spelled = encodes-chars text utf8 in
    ap encode_utf8_all (same_chars (chars text) (rw spelled none)) ∙ spelled
