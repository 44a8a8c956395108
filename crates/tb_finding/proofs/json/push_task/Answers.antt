use Rattle.std.proofs.Common.{◌≡◌, ◌++◌, List, ℕ, OnOk, string_bytes, subst, rules}
use Rattle.tb_json.specs.Stored.{stored_text}
use Rattle.tb_finding.specs.Json.{json_marks, json_numbers, unended}
use Rattle.tb_finding.proofs.Pushes.{three_pushed}
use Rattle.tb_finding.proofs.json.push_task.Goals as goal

pub returns : goal.returns
returns c =
    let first : string_bytes c.push_str.new.self ≡ string_bytes c.args.text.now ++ unended (stored_text c.args.task.now) = search rules in
    let second : string_bytes c.push_marks.new.text ≡ string_bytes c.push_str.new.self ++ json_marks c.args.look.now c.args.key.1.1 = search rules in
    let all = three_pushed (string_bytes c.args.text.now) (unended (stored_text c.args.task.now)) (json_marks c.args.look.now c.args.key.1.1) (json_numbers c.args.key) _ _ first second in
    subst (λ (t : List ℕ). OnOk c.push_numbers.result (string_bytes c.push_numbers.new.text ≡ t)) all c.push_numbers.ensures
