-- What a task is of which the stored text reads back as the same task: what its types keep of it, and `check`.
use Rattle.std.specs.Prelude.{◌≡◌, ◌<◌, ◌≤◌, ◌^◌, ℕ, pos, negsuc, List, false, length, IfSome}
use Rattle.std.specs.List.{AllByRecursion}
use Rattle.std.specs.List.Sorted.{IsStrictlySortedBy}
use Rattle.std.specs.Ordering.{nat_cmp}
use Rattle.std.specs.Cmp.Lexicographic.{slice_cmp}
use Rattle.tb_task.specs.declared.task.Task.{Task}
use Rattle.tb_task.specs.declared.task.Annotation.{Annotation}
use Rattle.tb_task.specs.declared.extra.Extra.{Extra}
use Rattle.tb_task.specs.declared.extra.ExtraValue.{ExtraValue}
use Rattle.tb_task.specs.declared.extra.ExtraValue.TheVariants.{Text, Whole, Truth, Null}
use Rattle.tb_task.specs.Attributes.{is_attribute}
use Rattle.tb_task.specs.Extra.{by_name}

-- up to the last second of the year 9999
abbrev pub IsMoment : ℕ → Type 0
IsMoment m = m ≤ 253402300799

-- of 128 bits
abbrev pub IsId : ℕ → Type 0
IsId id = id < 2 ^ 128

abbrev pub IsNotEmpty : List ℕ → Type 0
IsNotEmpty text = 1 ≤ length text

pub record HasMoments (t : Task) : Type 0 where
  pub entry : IsMoment t.entry
  pub modified : IfSome t.modified IsMoment
  pub start : IfSome t.start IsMoment
  pub end : IfSome t.end IsMoment
  pub due : IfSome t.due IsMoment
  pub wait : IfSome t.wait IsMoment
  pub scheduled : IfSome t.scheduled IsMoment
  pub until : IfSome t.until IsMoment

-- a whole number has 64 bits with sign
abbrev pub IsValue : ExtraValue → Type 0
IsValue (Text text) = Unit {0}
IsValue (Whole (pos n)) = n < 2 ^ 63
IsValue (Whole (negsuc n)) = n < 2 ^ 63
IsValue (Truth b) = Unit {0}
IsValue Null = Unit {0}

-- an extra attribute has a name, and none of the format's own
pub record IsStorableExtra (e : Extra) : Type 0 where
  pub named : IsNotEmpty e.name
  pub own : is_attribute e.name ≡ false
  pub value : IsValue e.value

pub record IsStorable (t : Task) : Type 0 where
  pub id : IsId t.id
  pub moments : HasMoments t
  pub description : IsNotEmpty t.description
  pub project : IfSome t.project IsNotEmpty
  pub recur : IfSome t.recur IsNotEmpty
  pub tags : IsStrictlySortedBy (slice_cmp nat_cmp) t.tags
  pub annotations : AllByRecursion (λ (a : Annotation). IsMoment a.entry) t.annotations
  pub depends : IsStrictlySortedBy nat_cmp t.depends
  pub links : AllByRecursion IsId t.depends
  pub parent : IfSome t.parent IsId
  pub imask : IfSome t.imask (λ n. n < 2 ^ 32)
  pub extras : AllByRecursion IsStorableExtra t.extras
  pub names : IsStrictlySortedBy by_name t.extras
