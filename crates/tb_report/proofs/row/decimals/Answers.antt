use Rattle.std.proofs.Common.{◌≡◌, rules, ◌∷◌, [], IfOk, string_bytes, nat_le, ◌*◌, ◌&&◌, unsigned_abs, if◌then◌else◌, subst, List, ℕ}
use Rattle.tb_report.specs.Row.{is_negative, unit}
use Rattle.tb_report.proofs.Columns.{digits_written, written_urgency}
use Rattle.tb_report.proofs.row.decimals.Goals as goal

pub returns : goal.returns
returns c =
    let said : IfOk c.format.result (λ text. string_bytes text ≡ digits_written c.unsigned_abs-size.result c.sign_of-sign.result.now) =
    rw c.laid_out.ensures at c.format.ensures.ok in
    let size : c.unsigned_abs-size.result ≡ unsigned_abs c.args.urgency = search rules in
    let sign : c.sign_of-sign.result.now ≡ (if is_negative c.args.urgency && nat_le unit (c.unsigned_abs-size.result * 1000) then 45 ∷ [] else []) = search rules in
    subst (λ (t : List ℕ). IfOk c.format.result (λ text. string_bytes text ≡ t)) (written_urgency c.args.urgency c.unsigned_abs-size.result c.sign_of-sign.result.now size sign) said
