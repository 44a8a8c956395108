use Rattle.std.proofs.Common.{◌≡◌, drop, map}
use Rattle.tb_my.specs.Settings.{settings_of, with_lines}
use Rattle.tb_my.proofs.settings.read_settings.Given as goal

abbrev pub invariant-loop-line : goal.invariant-loop-line
invariant-loop-line l =
    with_lines l.settings (map (λ line. line.now) (drop l.line-index l.line-items)) ≡ settings_of l.text
