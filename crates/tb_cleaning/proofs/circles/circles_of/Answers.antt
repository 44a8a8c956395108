use Rattle.std.proofs.Common.{ap, false, length, replicate, sym, ◌∙◌}
use Rattle.std.proofs.lemmas.Result.{IfOk-weaker}
use Rattle.tb_cleaning.specs.Circles.{circles_to}
use Rattle.tb_cleaning.proofs.Graphs.{none_marked}
use Rattle.tb_cleaning.proofs.circles.circles_of.Goals as goal

pub returns-then-branch : goal.returns-then-branch
returns-then-branch c =
    let g = c.in_ok-graph.graph in
    let none = none_marked g (length g) (c.in_ok-acyclic.ensures.0 c.if-branch.true) in
    IfOk-weaker c.no_marks.result _ _ (λ marks is.
    is ∙ ap (λ n. replicate n false) c.nodes.ensures ∙ sym none ∙ ap (λ h. circles_to h (length h)) c.in_ok-graph.ensures
    ) c.no_marks.ensures
