use Rattle.std.proofs.Common.{sym, ◌∙◌}
use Rattle.std.proofs.lemmas.Bool.{not-true}
use Rattle.tb_sweep.proofs.Adding.{none_lacks}
use Rattle.tb_sweep.proofs.QuietBoards.{none_anywhere}
use Rattle.tb_sweep.proofs.quiet.is_settled.Goals as goal

pub returns-in-Some : goal.returns-in-Some
returns-in-Some c so =
    none_anywhere c.args.board.now c.args.at c.in-Some.templates.now.places.items c.in-Some.ensures.recurring (sym c.lacks_somewhere.ensures ∙ not-true c.lacks_somewhere.result so)

pub returns-in-None : goal.returns-in-None
returns-in-None c so =
    none_lacks c.args.at c.args.board.now c.args.board.now.tasks (rw c.as_slice.ensures at (sym c.has_recurring.ensures ∙ not-true c.has_recurring.result so))
