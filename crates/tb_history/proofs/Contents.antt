-- When a content is shown.
use Rattle.std.proofs.Common.{◌≡◌, ℕ, ◌≤◌, ◌<◌, List, true, false, Some, None, length, nat_le, refl, inl, inr}
use Rattle.std.specs.Str.{IsUtf8, is_utf8}
use Rattle.std.proofs.lemmas.Bool.{and_from, and_left, and_right, cases_Bool, le-leb, lt-leb}
use Rattle.std.proofs.lemmas.Str.{IsUtf8-from_is_utf8, is_utf8-from_IsUtf8}
use Rattle.tb_history.specs.Contents.{is_short_text, short_text}

pub text_shown : (content : List ℕ) → length content ≤ 4096 → IsUtf8 content → short_text content ≡ Some content
text_shown content short text =
    let is : is_short_text content ≡ true = and_from _ _ (le-leb (length content) 4096 short) (is_utf8-from_IsUtf8 content text) in
    rw is refl

pub long_not_shown : (content : List ℕ) → 4096 < length content → short_text content ≡ None
long_not_shown content long =
    let isnt : is_short_text content ≡ false = and_left _ (is_utf8 content) (lt-leb (length content) 4096 long) in
    rw isnt refl

no_utf8 : (content : List ℕ) → (IsUtf8 content → ⊥) → is_utf8 content ≡ false
no_utf8 content other = elim (cases_Bool (is_utf8 content)) [
  | inl is ↦ absurd (other (IsUtf8-from_is_utf8 content is))
  | inr isnt ↦ isnt
]

pub other_not_shown : (content : List ℕ) → (IsUtf8 content → ⊥) → short_text content ≡ None
other_not_shown content other =
    let isnt : is_short_text content ≡ false = and_right (nat_le (length content) 4096) _ (no_utf8 content other) in
    rw isnt refl
