use Rattle.std.proofs.Common.{◌≡◌, IfOk, option_map, sym, ap, ◌∙◌, subst}
use Rattle.serde_json.specs.Read.{read}
use Rattle.serde_json.specs.View.{view}
use Rattle.tb_json.proofs.Bytes.{json_of_text, json_of_no_text}
use Rattle.tb_cleaning.proofs.items.parse_bytes.Goals as goal

pub returns-in-Ok : goal.returns-in-Ok
returns-in-Ok c =
    let text = c.in-Ok.ensures.cases in
    subst (λ o. IfOk c.parse.result (λ v. option_map view v ≡ o)) (ap read text.0 ∙ sym (json_of_text c.args.bytes.now text.1)) c.parse.ensures

pub returns-in-Err : goal.returns-in-Err
returns-in-Err c = sym (json_of_no_text c.args.bytes.now c.in-Err.ensures.cases.0)
