use Rattle.std.proofs.Common.{◌≡◌, drop}
use Rattle.serde_json.specs.View.{members_view}
use Rattle.tb_my.specs.Body.{with_settings}
use Rattle.tb_my.proofs.body.put_settings.Given as goal

abbrev pub invariant-loop-setting : goal.invariant-loop-setting
invariant-loop-setting l =
    with_settings (drop l.setting-index l.settings) (members_view l.object.entries)
    ≡ with_settings l.settings (members_view l.fn.object.entries)
