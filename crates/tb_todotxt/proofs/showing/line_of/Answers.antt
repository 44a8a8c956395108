use Rattle.std.proofs.Common.{sym, subst}
use Rattle.std.specs.Prelude.{IfSome}
use Rattle.tb_todotxt.specs.Day.{IsDay}
use Rattle.tb_todotxt.specs.Letter.{IsLetter}
use Rattle.tb_todotxt.specs.Line.{IsLine}
use Rattle.tb_todotxt.proofs.TaskLines.{shown_line}
use Rattle.tb_todotxt.proofs.showing.line_of.Goals as goal

pub from_parts-requires : goal.from_parts-requires
from_parts-requires c =
    let is = c.in_ok-parts.ensures.parts in
    subst IsLine (sym is)
    (shown_line c.args.done c.args.task.now c.requires
    (subst (λ p. IfSome p.priority IsLetter) is c.in_ok-parts.ensures.letter)
    (subst (λ p. IfSome p.completion IsDay) is c.in_ok-parts.ensures.completion)
    (subst (λ p. IfSome p.creation IsDay) is c.in_ok-parts.ensures.creation))
