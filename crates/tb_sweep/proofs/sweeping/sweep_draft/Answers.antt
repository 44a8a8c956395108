use Rattle.std.proofs.Common.{sym, ◌∙◌}
use Rattle.tb_sweep.proofs.Adding.{sweep_none, added_none, more_none}
use Rattle.tb_sweep.proofs.sweeping.sweep_draft.Goals as goal

pub returns-then-not-has_recurring-clause-board : goal.returns-then-not-has_recurring-clause-board
returns-then-not-has_recurring-clause-board c =
    sym (sweep_none c.args.draft.board c.in_ok-draft.draft.board c.args.at c.in_ok-draft.ensures.board (rw c.as_slice.ensures at (sym c.has_recurring.ensures ∙ c.if-not-has_recurring.true)))

pub returns-then-not-has_recurring-clause-added : goal.returns-then-not-has_recurring-clause-added
returns-then-not-has_recurring-clause-added c =
    added_none c.args.draft.board c.in_ok-draft.draft.board c.args.at c.in_ok-draft.ensures.board (rw c.as_slice.ensures at (sym c.has_recurring.ensures ∙ c.if-not-has_recurring.true))

pub returns-then-not-has_recurring-clause-more : goal.returns-then-not-has_recurring-clause-more
returns-then-not-has_recurring-clause-more c =
    more_none c.args.draft.board c.in_ok-draft.draft.board c.args.at c.in_ok-draft.ensures.board (rw c.as_slice.ensures at (sym c.has_recurring.ensures ∙ c.if-not-has_recurring.true))
