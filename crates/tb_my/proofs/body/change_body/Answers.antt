use Rattle.std.proofs.Common.{ap, ◌∙◌}
use Rattle.serde_json.specs.Written.{compact_text}
use Rattle.tb_my.proofs.Floatless.{change_no_float}
use Rattle.tb_my.proofs.body.change_body.Goals as goal

pub returns : goal.returns
returns c =
    let is = c.in_ok-value.ensures in
    c.from_string.ensures ∙ c.in_ok-text.ensures.text (rw is (change_no_float c.args.tags.now c.args.description.now c.args.said.now)) ∙ ap compact_text is
