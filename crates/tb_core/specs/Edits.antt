-- Attributes of a task that are set and removed.
use Rattle.std.specs.Prelude.{ℕ, Bool, List, [], ◌∷◌, Option, Some, None, option_and_then, unwrap_or, if◌then◌else◌, bytes_eq, codes}
use Rattle.std.specs.BTreeMap.{is_at}
use Rattle.std.specs.BTreeSet.{replace_key}
use Rattle.std.specs.List.{list_any}
use Rattle.std.specs.Set.{remove_key}
use Rattle.tb_board.specs.Statuses.{is_pending_or_waiting, settled}
use Rattle.tb_task.specs.Attributes.{is_attribute}
use Rattle.tb_task.specs.Extra.{by_name}
use Rattle.tb_task.specs.declared.edit.Edit.{Edit}
use Rattle.tb_task.specs.declared.edit.Given.{Given}
use Rattle.tb_task.specs.declared.edit.Given.TheVariants.{Text, Moment, Priority, Tags, Number, Truth}
use Rattle.tb_task.specs.declared.extra.Extra.{Extra}
use Rattle.tb_task.specs.declared.extra.ExtraValue.{ExtraValue}
use Rattle.tb_task.specs.declared.extra.ExtraValue.TheVariants as value
use Rattle.tb_task.specs.declared.priority.Priority as priority
use Rattle.tb_task.specs.declared.status.Status.{Status}
use Rattle.tb_task.specs.declared.task.Task.{Task}

-- ---- what is given, by the kind of the attribute
-- Edits that are read from JSON have values of their attributes' kinds. In any other list a value of another kind is as if none were given.

abbrev pub text_in : Given → Option (List ℕ)
text_in (Text text) = Some text
text_in other = None

abbrev pub moment_in : Given → Option ℕ
moment_in (Moment m) = Some m
moment_in other = None

abbrev pub priority_in : Given → Option priority.Priority
priority_in (Priority p) = Some p
priority_in other = None

abbrev pub tags_in : Given → Option (List (List ℕ))
tags_in (Tags tags) = Some tags
tags_in other = None

-- what an attribute can say that the task format doesn't know
abbrev pub extra_in : Given → Option ExtraValue
extra_in (Text text) = Some (value.Text text)
extra_in (Number n) = Some (value.Whole n)
extra_in (Truth b) = Some (value.Truth b)
extra_in other = None

abbrev pub given_text : Option Given → Option (List ℕ)
given_text g = option_and_then text_in g

abbrev pub given_moment : Option Given → Option ℕ
given_moment g = option_and_then moment_in g

-- the empty text removes
abbrev pub unless_empty : Option (List ℕ) → Option (List ℕ)
unless_empty None = None
unless_empty (Some []) = None
unless_empty (Some (c ∷ cs)) = Some (c ∷ cs)

-- ---- the attributes

-- the attribute of that name goes to its place in byte order, or is removed
abbrev pub with_extra : List ℕ → Option ExtraValue → List Extra → List Extra
with_extra name None extras =
    remove_key (is_at (by_name (record { name = name; value = value.Null }))) extras
with_extra name (Some v) extras = replace_key by_name extras (record { name = name; value = v })

-- an attribute that the task format doesn't know. Those that it knows aren't edited here.
unfoldable pub extended : Edit → Task → Task
extended e t = if is_attribute e.name then t
    else record t { extras = with_extra e.name (option_and_then extra_in e.value) t.extras }

-- the named attribute is set, or removed where nothing is given: a description is then empty
unfoldable pub edited : Edit → Task → Task
edited e t =
    if bytes_eq e.name (codes "description")
    then record t { description = unwrap_or (given_text e.value) [] }
    else if bytes_eq e.name (codes "due") then record t { due = given_moment e.value }
    else if bytes_eq e.name (codes "priority")
    then record t { priority = option_and_then priority_in e.value }
    else if bytes_eq e.name (codes "project")
    then record t { project = unless_empty (given_text e.value) }
    else if bytes_eq e.name (codes "recur")
    then record t { recur = unless_empty (given_text e.value) }
    else if bytes_eq e.name (codes "scheduled") then record t { scheduled = given_moment e.value }
    else if bytes_eq e.name (codes "tags")
    then record t { tags = unwrap_or (option_and_then tags_in e.value) [] }
    else if bytes_eq e.name (codes "until") then record t { until = given_moment e.value }
    else if bytes_eq e.name (codes "wait") then record t { wait = given_moment e.value }
    else extended e t

-- one edit after the other
abbrev pub edited_by : List Edit → Task → Task
edited_by [] t = t
edited_by (e ∷ es) t = edited_by es (edited e t)

abbrev pub names : List ℕ → List Edit → Bool
names name edits = list_any (λ (e : Edit). bytes_eq e.name name) edits

-- ---- the task

-- pending and waiting are settled
abbrev pub settled_again : ℕ → Task → Status
settled_again m t = if is_pending_or_waiting t.status then settled t.wait m else t.status

abbrev pub touched : ℕ → Task → Task
touched m t = record t { status = settled_again m t; modified = Some m }

-- the task with all the edits, changed at m even where there are none
-- Rule: modify sets the moment modified, whatever it names. Tried by modify_values.
abbrev pub modified : ℕ → List Edit → Task → Task
modified m edits t = touched m (edited_by edits t)
