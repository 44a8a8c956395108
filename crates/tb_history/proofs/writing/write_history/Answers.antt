use Rattle.std.proofs.Common.{◌∙◌, ap}
use Rattle.serde_json.specs.Written.{compact_text, has_float}
use Rattle.tb_history.proofs.Members.{history_without_float}
use Rattle.tb_history.proofs.writing.write_history.Goals as goal

pub returns : goal.returns
returns c =
    c.from_string.ensures
    ∙ c.in_ok-to_string.ensures.text (ap has_float c.in_ok-value.ensures ∙ history_without_float c.args.board c.args.page.now)
    ∙ ap compact_text c.in_ok-value.ensures
