-- The identifiers of templates.
use Rattle.std.specs.Prelude.{◌≡◌, ℕ, List}
use Rattle.std.specs.BTreeSet.{BTreeSet, contains}
use Rattle.std.specs.List.{list_any}
use Rattle.std.specs.Ordering.{nat_cmp}
use Rattle.tb_task.specs.declared.task.Task.{Task}
use Rattle.tb_board.specs.Instances.{is_template_with}

-- the set has those of the templates among these tasks
abbrev pub AreTemplates : List Task → BTreeSet ℕ → Type 0
AreTemplates ts templates = (id : ℕ)
    → contains nat_cmp templates id ≡ list_any (is_template_with id) ts
