use Rattle.std.proofs.Common.{◌≡◌, ◌∙◌, ap, rules, string_bytes}
use Rattle.std.proofs.lemmas.Str.{IsUtf8-string_bytes}
use Rattle.tb_json.specs.Parse.{json_of_bytes}
use Rattle.tb_json.proofs.Bytes.{json_of_text}
use Rattle.tb_orders.proofs.lists.list_text.Goals as goal

pub returns-clause-value : goal.returns-clause-value
returns-clause-value c =
    let text = c.in_ok-text.text in
    let same : c.from_vec.result ≡ string_bytes text = search rules in
    ap json_of_bytes same ∙ json_of_text (string_bytes text) (IsUtf8-string_bytes text) ∙ c.in_ok-text.ensures.reads_back c.requires
