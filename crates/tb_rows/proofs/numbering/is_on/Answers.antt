use Rattle.std.proofs.Common.{refl, sym, ◌∙◌}
use Rattle.tb_rows.proofs.PushedRows.{on_more, on_still}
use Rattle.tb_rows.proofs.numbering.is_on.Goals as goal

pub returns-then-has : goal.returns-then-has
returns-then-has c = c.if-has.true ∙ sym (on_still c.args.board.now c.args.task.now c.args.id (sym c.has.ensures ∙ c.if-has.true))

pub returns-else-has : goal.returns-else-has
returns-else-has c = c.eq.ensures ∙ sym (on_more c.args.board.now c.args.task.now c.args.id ∙ rw (sym c.has.ensures ∙ c.if-has.false) refl)
