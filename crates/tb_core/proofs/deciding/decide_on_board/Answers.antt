use Rattle.std.proofs.Common.{ap, not, sym, ◌∙◌}
use Rattle.tb_core.proofs.Decided.{is_accepted}
use Rattle.tb_core.proofs.Shapes.{draft_shape}
use Rattle.tb_core.proofs.deciding.decide_on_board.Goals as goal

pub returns-in-Ok-clause-decided : goal.returns-in-Ok-clause-decided
returns-in-Ok-clause-decided c = λ w name is.
    let accepts = rw c.get.ensures at c.in-Ok.ensures in
    rw c.into_decision.ensures
    (is_accepted w c.args.seen.now name c.args.board c.args.command.now c.args.at c.in-Some.found c.in-Ok.accepted is (ap not (c.is_none.ensures ∙ ap not c.if-is_none.false)) c.in-Some.is
    (sym c.allows.ensures ∙ c.if-not-allows.false) accepts)

pub returns-in-Ok-clause-shape : goal.returns-in-Ok-clause-shape
returns-in-Ok-clause-shape c = rw c.into_decision.ensures (draft_shape _ _ c.in-Ok.ensures.made)
