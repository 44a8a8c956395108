-- What is noted of a list's templates.
use Rattle.std.specs.Prelude.{◌≡◌, ℕ, ◌+◌, true, ◌==◌, List, [], ◌∷◌, length, unwrap_or}
use Rattle.std.specs.List.{list_any}
use Rattle.std.specs.BTreeMap.{BTreeMap, get}
use Rattle.std.specs.Ordering.{nat_cmp}
use Rattle.tb_task.specs.declared.task.Task.{Task}
use Rattle.tb_task.specs.Checks.{is_recurring}
use Rattle.tb_board.specs.InstancePlaces.{instance_places}
use Rattle.tb_board.specs.declared.template_index.TemplateIndex.{TemplateIndex}

-- the place n is among these
abbrev pub HasPlace : List ℕ → ℕ → Type 0
HasPlace places n = list_any (λ p. p == n) places ≡ true

-- of tasks that stand from n on, the place of each that recurs is among these
abbrev pub HasRecurring : ℕ → List Task → List ℕ → Type 0
HasRecurring n [] places = Unit {0}
HasRecurring n (t ∷ ts) places =
    (is_recurring t.status ≡ true → HasPlace places n) × HasRecurring (n + 1) ts places

-- the number that is noted of a template, and 0 where none is
abbrev pub number_in : BTreeMap ℕ ℕ → ℕ → ℕ
number_in instances id = unwrap_or (get nat_cmp instances id) 0

-- the number of each template's instances is noted
abbrev pub AreNumbers : List Task → BTreeMap ℕ ℕ → Type 0
AreNumbers ts instances = (id : ℕ) → number_in instances id ≡ length (instance_places id ts)

-- the index is of these tasks
pub record IsTemplateIndex (ts : List Task) (index : TemplateIndex) : Type 0 where
  pub recurring : HasRecurring 0 ts index.places.items
  pub numbers : AreNumbers ts index.instances
