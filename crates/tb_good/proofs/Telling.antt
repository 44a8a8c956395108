-- What the test of a part tells of the whole.
use Rattle.std.proofs.Common.{◌≡◌, ◌↔◌, Bool, true, false, true≢false, IfOk, IsTrue, Result, sym, ◌∙◌}
use Rattle.std.proofs.lemmas.Bool.Decides.{Decides-like}
use Rattle.std.proofs.lemmas.Result.{IfOk-weaker}

-- where the part isn't so, the whole isn't
pub part_fails : {P Q : Type 0} (r : Bool) → r ≡ false → IsTrue r ↔ P → (Q → P) → IsTrue false ↔ Q
part_fails r wrong tells part = (λ yes. absurd (true≢false (sym yes)), λ whole. sym wrong ∙ tells.1 (part whole))

-- where the other parts are so, the last part tells of the whole
pub last_tells : {P Q E : Type 0} (r : Result Bool E) → (P → Q) → (Q → P) → IfOk r (λ b. IsTrue b ↔ P) → IfOk r (λ b. IsTrue b ↔ Q)
last_tells {P = P} {Q = Q} r to from = IfOk-weaker r (λ b. IsTrue b ↔ P) (λ b. IsTrue b ↔ Q) (λ b tells. Decides-like b to from tells)
