use Rattle.std.proofs.Common.{sym, ◌∙◌}
use Rattle.tb_core.proofs.Cycles.{unawaited}
use Rattle.tb_core.proofs.linking.leads_back.Goals as goal

pub returns-then-not-is_awaited : goal.returns-then-not-is_awaited
returns-then-not-is_awaited c =
    unawaited c.args.board.now c.args.id c.args.on (sym c.is_awaited.ensures ∙ c.if-not-is_awaited.true)
