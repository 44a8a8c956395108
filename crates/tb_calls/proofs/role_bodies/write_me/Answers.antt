use Rattle.std.proofs.Common.{◌∙◌, ap}
use Rattle.serde_json.specs.Written.{compact_text, has_float}
use Rattle.tb_calls.proofs.RoleBodies.{me_without_float}
use Rattle.tb_calls.proofs.role_bodies.write_me.Goals as goal

pub returns : goal.returns
returns c =
    c.from_string.ensures
    ∙ c.in_ok-to_string.ensures.text (ap has_float c.in_ok-value.ensures ∙ me_without_float c.args.name.now c.args.boards.now)
    ∙ ap compact_text c.in_ok-value.ensures
