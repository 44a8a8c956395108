-- When a line is read.
use Rattle.std.proofs.Common.{◌≡◌, ◌∙◌, ℕ, true, false, List, Err, length, ◌≤◌, ◌<◌, arith, nat_le, ◌==◌, refl, inl, inr, sym}
use Rattle.std.specs.Str.{IsUtf8, is_utf8}
use Rattle.std.proofs.lemmas.Bool.{le-leb, lt-leb, and_from, and_left, and_right, cases_Bool, ne_eqb}
use Rattle.std.proofs.lemmas.Str.{IsUtf8-from_is_utf8, is_utf8-from_IsUtf8}
use Rattle.tb_calls.specs.Call.{State}
use Rattle.tb_script.specs.Answering.{is_readable, answer, answered, request_of}
use Rattle.tb_script.specs.declared.line_fault.Unreadable.TheVariants.{BadLine}

pub readable_text : (line : List ℕ) → IsUtf8 line → length line ≤ 1048576 → is_readable line ≡ true
readable_text line u l = and_from _ _ (le-leb (length line) 1048576 l) (is_utf8-from_IsUtf8 line u)

pub no_text : (line : List ℕ) → (IsUtf8 line → ⊥) → is_readable line ≡ false
no_text line not_text = elim (cases_Bool (is_utf8 line)) [
  | inl e ↦ absurd (not_text (IsUtf8-from_is_utf8 line e))
  | inr e ↦ and_right (nat_le (length line) 1048576) _ e
]

too_long : (line : List ℕ) → 1048576 < length line → request_of line ≡ Err BadLine
unfolding request_of
too_long line l = let no_line : is_readable line ≡ false = and_left _ (is_utf8 line) (lt-leb (length line) 1048576 l) in rw no_line refl

too_long_answer : (s : State) (line : List ℕ) → 1048576 < length line → answer s line ≡ answered s (Err BadLine)
unfolding answer
too_long_answer s line l =
    let some : (length line == 0) ≡ false = ne_eqb (length line) 0 (λ e. absurd (omega arith)) in
    rw (some, too_long line l) refl

-- any two lines that are too long are answered alike
pub too_long_alike : (s : State) (a b : List ℕ) → 1048576 < length a → 1048576 < length b → answer s a ≡ answer s b
too_long_alike s a b long_a long_b = too_long_answer s a long_a ∙ sym (too_long_answer s b long_b)
