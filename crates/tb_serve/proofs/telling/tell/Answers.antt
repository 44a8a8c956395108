use Rattle.std.proofs.Common.{sym, ap, ◌∙◌}
use Rattle.tb_serve.specs.Telling.{told_at}
use Rattle.tb_serve.proofs.telling.tell.Goals as goal

pub returns-in_ok-without_clock-in-None-clause-told : goal.returns-in_ok-without_clock-in-None-clause-told
returns-in_ok-without_clock-in-None-clause-told g c y s held =
    c.in_ok-without_clock-in-None.ensures s c.args.message.now ∙ ap (told_at s c.args.message.now) (sym c.in-None.is)
