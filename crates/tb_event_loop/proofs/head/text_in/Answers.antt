use Rattle.std.proofs.Common.{◌≡◌, ℕ, List, [], Bool, true, false, cond, refl, sym, ap, ◌∙◌}
use Rattle.std.proofs.lemmas.Str.{IsUtf8-from_is_utf8, is_utf8-from_IsUtf8}
use Rattle.std.specs.Str.{IsUtf8, is_utf8}
use Rattle.tb_event_loop.proofs.head.text_in.Goals as goal

no_text : (b : Bool) (bytes : List ℕ) → is_utf8 bytes ≡ b → (IsUtf8 bytes → ⊥) → [] ≡ cond b bytes []
no_text true bytes is isnt = absurd (isnt (IsUtf8-from_is_utf8 bytes is))
no_text false bytes is isnt = refl

pub returns-in-Ok : goal.returns-in-Ok
returns-in-Ok c =
    let text = c.in-Ok.ensures.cases in
    let bytes = c.args.value.now in
    text.0 ∙ sym (ap (λ b. cond b bytes []) (is_utf8-from_IsUtf8 bytes text.1))

pub returns-in-Err : goal.returns-in-Err
returns-in-Err c = no_text (is_utf8 c.args.value.now) c.args.value.now refl c.in-Err.ensures.cases.0
