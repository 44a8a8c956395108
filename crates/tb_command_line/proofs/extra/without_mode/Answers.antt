use Rattle.std.proofs.Common.{is_some, map}
use Rattle.tb_command_line.specs.Extra.{mode_in}
use Rattle.tb_command_line.proofs.Modes.{taken}
use Rattle.tb_command_line.proofs.extra.without_mode.Goals as goal

pub returns : goal.returns
returns c =
    taken (λ word. word.now) c.args.words.now (is_some (mode_in (map (λ word. word.now) c.args.words.now))) c.count_without_mode-end.result
    c.count_without_mode-end.ensures.count
