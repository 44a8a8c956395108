use Rattle.std.proofs.Common.{sym, ◌∙◌, ap}
use Rattle.tb_core.specs.declared.look.Seen.{Seen}
use Rattle.tb_core.specs.Apply.{apply, seen_of}
use Rattle.tb_deeds.proofs.Answered.{told_by}
use Rattle.tb_deeds.proofs.deed.deed_of.Goals as goal

pub returns-clause-by : goal.returns-clause-by
returns-clause-by c =
    told_by c.args.seen.now.board c.args.decision.now.answer c.args.command.now c.args.at c.in-Some.found c.in-Ok.answer c.deed_about.result c.in-Some.is c.in-Ok.is
    (rw c.get.ensures at (rw c.added_in-added.ensures at c.deed_about.ensures))

pub returns-clause-of : goal.returns-clause-of
returns-clause-of c = λ w name is so.
    told_by (seen_of w name c.args.command.now).board (apply w name c.args.command.now c.args.at).answer c.args.command.now c.args.at c.in-Some.found c.in-Ok.answer c.deed_about.result
    (sym (ap (λ (s : Seen). s.board) is) ∙ c.in-Some.is) (sym so ∙ c.in-Ok.is)
    (rw c.get.ensures at (rw c.added_in-added.ensures at c.deed_about.ensures))
