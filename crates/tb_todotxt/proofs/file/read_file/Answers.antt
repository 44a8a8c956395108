use Rattle.std.proofs.Common.{◌≡◌, ◌∙◌, ap, sym, subst}
use Rattle.std.specs.List.{AllByRecursion}
use Rattle.tb_todotxt.specs.File.{kept_lines}
use Rattle.tb_todotxt.proofs.FileLines.{IsFull, IsOneLine, shown, full_lines, one_lines}
use Rattle.tb_todotxt.proofs.file.read_file.Goals as goal

pub tasks_of-requires-clause-full : goal.tasks_of-requires-clause-full
tasks_of-requires-clause-full c =
    let is : shown c.deref.result.now ≡ kept_lines c.args.text.now = ap shown c.deref.ensures.value ∙ c.in_ok-lines.ensures in
    subst (AllByRecursion IsFull) (sym is) (full_lines c.args.text.now)

pub tasks_of-requires-clause-one_line : goal.tasks_of-requires-clause-one_line
tasks_of-requires-clause-one_line c =
    let is : shown c.deref.result.now ≡ kept_lines c.args.text.now = ap shown c.deref.ensures.value ∙ c.in_ok-lines.ensures in
    subst (AllByRecursion IsOneLine) (sym is) (one_lines c.args.text.now)
