-- What the types of its attributes keep of every task: for private clauses.
use Rattle.std.specs.Prelude.{◌<◌, ◌^◌, IfSome}
use Rattle.std.specs.List.{AllByRecursion}
use Rattle.std.specs.List.Sorted.{IsStrictlySortedBy}
use Rattle.std.specs.Ordering.{nat_cmp}
use Rattle.std.specs.Cmp.Lexicographic.{slice_cmp}
use Rattle.tb_task.specs.declared.task.Task.{Task}
use Rattle.tb_task.specs.declared.task.Annotation.{Annotation}
use Rattle.tb_task.specs.declared.extra.Extra.{Extra}
use Rattle.tb_task.specs.Storable.{IsMoment, IsId, IsNotEmpty, IsValue}

pub record HasLinks (t : Task) : Type 0 where
  pub id : IsId t.id
  pub parent : IfSome t.parent IsId
  pub imask : IfSome t.imask (λ n. n < 2 ^ 32)
  pub depends : IsStrictlySortedBy nat_cmp t.depends
  pub links : AllByRecursion IsId t.depends

pub record HasTexts (t : Task) : Type 0 where
  pub project : IfSome t.project IsNotEmpty
  pub recur : IfSome t.recur IsNotEmpty
  pub annotations : AllByRecursion (λ (a : Annotation). IsMoment a.entry) t.annotations
  pub tags : IsStrictlySortedBy (slice_cmp nat_cmp) t.tags

pub record IsNamedExtra (e : Extra) : Type 0 where
  pub named : IsNotEmpty e.name
  pub value : IsValue e.value
