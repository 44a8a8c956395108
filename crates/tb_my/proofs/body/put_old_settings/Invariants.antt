use Rattle.std.proofs.Common.{◌≡◌, drop}
use Rattle.serde_json.specs.View.{members_view}
use Rattle.tb_my.specs.Body.{with_old_settings}
use Rattle.tb_my.proofs.body.put_old_settings.Given as goal

abbrev pub invariant-loop-setting : goal.invariant-loop-setting
invariant-loop-setting l =
    with_old_settings l.task.old (drop l.setting-index l.settings) (members_view l.object.entries)
    ≡ with_old_settings l.task.old l.settings (members_view l.fn.object.entries)
