use Rattle.std.proofs.Common.{◌≡◌, rules, ◌++◌, OnOk, string_bytes, subst, arith, List, ℕ}
use Rattle.tb_report.specs.Row.{urgency_text}
use Rattle.tb_report.proofs.Columns.{written, written_row}
use Rattle.tb_report.proofs.row.push_row.Goals as goal

pub returns : goal.returns
returns c =
    let said : OnOk c.writeln.result (string_bytes c.writeln.new.self ≡ string_bytes c.args.listing.now
    ++ written c.args.row.now.place (string_bytes c.in_ok-urgency.urgency) c.args.row.now.flags.now c.sized-due.result.now c.sized-project.result.now c.args.row.now.description.now) =
    rw (c.laid_out.ensures, c.laid_out-2.ensures, c.laid_out-3.ensures, c.laid_out-4.ensures) at c.writeln.ensures.bytes in
    let is : string_bytes c.in_ok-urgency.urgency ≡ urgency_text c.args.row.now.urgency = search rules in
    let text = written_row c.args.row.now.place c.args.row.now.urgency (string_bytes c.in_ok-urgency.urgency) c.args.row.now.flags.now c.sized-due.result.now c.sized-project.result.now c.args.row.now.description.now
    (omega arith) (omega (arith, c.in_ok-urgency.urgency.bytes.small, c.in_ok-urgency.urgency.bytes.ok)) (omega arith) (omega arith) is in
    let due = c.sized-due.ensures.same in
    let project = c.sized-project.ensures.same in
    rw (← due, ← project) (subst (λ (t : List ℕ). OnOk c.writeln.result (string_bytes c.writeln.new.self ≡ string_bytes c.args.listing.now ++ t)) text said)
