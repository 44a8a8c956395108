use Rattle.std.proofs.Common.{ap, ◌∙◌}
use Rattle.serde_json.specs.Written.{compact_text}
use Rattle.tb_client.proofs.Floatless.{no_float}
use Rattle.tb_client.proofs.line.line_text.Goals as goal

pub returns : goal.returns
returns c =
    let is = c.in_ok-value.ensures in
    c.from_string.ensures ∙ c.in_ok-text.ensures.text (rw is (no_float c.args.line.now)) ∙ ap compact_text is
