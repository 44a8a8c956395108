use Rattle.std.proofs.Common.{◌≡◌, ℕ, List, Bool, true, false, cond, Some, None, refl, sym, ap, ◌∙◌}
use Rattle.std.proofs.lemmas.Str.{IsUtf8-from_is_utf8, is_utf8-from_IsUtf8}
use Rattle.std.specs.Str.{IsUtf8, is_utf8}
use Rattle.tb_asking.proofs.bodies.read_text.Goals as goal

no_text : (b : Bool) (bytes : List ℕ) → is_utf8 bytes ≡ b → (IsUtf8 bytes → ⊥) → None ≡ cond b (Some bytes) None
no_text true bytes is isnt = absurd (isnt (IsUtf8-from_is_utf8 bytes is))
no_text false bytes is isnt = refl

pub returns-in-Ok : goal.returns-in-Ok
returns-in-Ok c =
    let text = c.in-Ok.ensures.cases in
    let bytes = c.args.bytes.now in
    ap Some text.0 ∙ sym (ap (λ b. cond b (Some bytes) None) (is_utf8-from_IsUtf8 bytes text.1))

pub returns-in-Err : goal.returns-in-Err
returns-in-Err c = no_text (is_utf8 c.args.bytes.now) c.args.bytes.now refl c.in-Err.ensures.cases.0
