-- Values that are text.
use Rattle.std.proofs.Common.{◌≡◌, ℕ, List, Bool, true, false, cond, Some, None, refl, ap}
use Rattle.std.proofs.lemmas.Str.{IsUtf8-from_is_utf8, is_utf8-from_IsUtf8}
use Rattle.std.specs.Str.{IsUtf8, is_utf8}
use Rattle.tb_http.specs.declared.message.Field.{Field}
use Rattle.tb_http.specs.Sender.{text_in}

pub text_there : (field : Field) → IsUtf8 field.value → text_in field ≡ Some field.value
text_there field is = ap (λ b. cond b (Some field.value) None) (is_utf8-from_IsUtf8 field.value is)

none_where : (b : Bool) (bytes : List ℕ) → is_utf8 bytes ≡ b → (IsUtf8 bytes → ⊥) → cond b (Some bytes) None ≡ None
none_where true bytes e h = absurd (h (IsUtf8-from_is_utf8 bytes e))
none_where false bytes e h = refl

pub no_text_there : (field : Field) → (IsUtf8 field.value → ⊥) → text_in field ≡ None
no_text_there field isnt = none_where (is_utf8 field.value) field.value refl isnt
