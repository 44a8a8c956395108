use Rattle.std.proofs.Common.{drop}
use Rattle.std.specs.List.{AllByRecursion}
use Rattle.tb_task.specs.declared.task.Annotation.{Annotation}
use Rattle.tb_task.specs.Storable.{IsMoment}
use Rattle.tb_task.proofs.ranges.are_annotations.Given as goal

-- if it holds of what is left, it holds of all
abbrev pub invariant-loop-annotation : goal.invariant-loop-annotation
invariant-loop-annotation l = AllByRecursion (λ (a : Annotation). IsMoment a.entry) (drop l.annotation-index l.annotations) → AllByRecursion (λ (a : Annotation). IsMoment a.entry) l.annotations
