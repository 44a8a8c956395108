-- What a test tells of one fact it tells of another.
use Rattle.std.proofs.Common.{◌≡◌, ◌∙◌, Bool, true, false, true≢false, sym, Result, Ok, Err}
use Rattle.std.specs.Prelude.{◌↔◌, IfOk, IsTrue}

-- where a part of it isn't so, the whole isn't
pub tells_other : {P Q : Type 0} (r : Bool) → r ≡ false → IsTrue r ↔ P → (Q → P) → IsTrue false ↔ Q
tells_other r is tells part = (λ h. absurd (true≢false (sym h)), λ q. sym is ∙ tells.1 (part q))

-- where the other parts are so, the last one tells of the whole
pub tells_whole : {P Q E : Type 0} (r : Result Bool E) → IfOk r (λ b. IsTrue b ↔ P) → (P → Q) → (Q → P) → IfOk r (λ b. IsTrue b ↔ Q)
tells_whole (Ok b) tells to from = (λ h. to (tells.0 h), λ q. tells.1 (from q))
tells_whole (Err e) tells to from = tells
