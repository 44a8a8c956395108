-- Bytes that are text, and the items of an array.
use Rattle.std.proofs.Common.{◌≡◌, ℕ, List, Bool, true, false, cond, None, refl, ap, [], ◌∷◌, map}
use Rattle.std.proofs.lemmas.Str.{IsUtf8-from_is_utf8, is_utf8-from_IsUtf8}
use Rattle.std.specs.Str.{IsUtf8, is_utf8}
use Rattle.serde_json.specs.Read.{read}
use Rattle.serde_json.specs.View.{view, items_view}
use Rattle.serde_json.specs.declared.value.Value.{Value}
use Rattle.tb_json.specs.Import.{items_of_array}
use Rattle.tb_json.specs.Parse.{json_of_bytes}

pub json_of_text : (bytes : List ℕ) → IsUtf8 bytes → json_of_bytes bytes ≡ read bytes
json_of_text bytes h = rw (is_utf8-from_IsUtf8 bytes h)

none_where : (b : Bool) (bytes : List ℕ) → is_utf8 bytes ≡ b → (IsUtf8 bytes → ⊥) → cond b (read bytes) None ≡ None
none_where true bytes e h = absurd (h (IsUtf8-from_is_utf8 bytes e))
none_where false bytes e h = refl

pub json_of_no_text : (bytes : List ℕ) → (IsUtf8 bytes → ⊥) → json_of_bytes bytes ≡ None
json_of_no_text bytes h = none_where (is_utf8 bytes) bytes refl h

pub array_items : (vs : List Value) → items_of_array (items_view vs) ≡ map view vs
array_items [] = refl
array_items (v ∷ vs) = ap (λ ds. view v ∷ ds) (array_items vs)
