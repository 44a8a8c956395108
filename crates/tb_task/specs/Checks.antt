-- Which tasks a board takes, and which fault the others have.
use Rattle.std.specs.Prelude.{ℕ, Bool, true, false, not, ◌&&◌, ◌||◌, ◌==◌, List, [], ◌∷◌, Option, Some, None, Result, Ok, Err, if◌then◌else◌, length, nat_lt, is_some}
use Rattle.std.specs.List.{list_any}
use Rattle.std.specs.Bool.{beq}
use Rattle.tb_task.specs.Attributes.{is_attribute}
use Rattle.tb_task.specs.Step.{step_of}
use Rattle.tb_task.specs.declared.status.Status.{Status}
use Rattle.tb_task.specs.declared.status.Status.TheVariants.{Pending, Waiting, Recurring, Completed, Deleted}
use Rattle.tb_task.specs.declared.task.Task.{Task}
use Rattle.tb_task.specs.declared.task.Annotation.{Annotation}
use Rattle.tb_task.specs.declared.extra.Extra.{Extra}
use Rattle.tb_task.specs.declared.extra.ExtraValue.{ExtraValue}
use Rattle.tb_task.specs.declared.extra.ExtraValue.TheVariants.{Text, Whole, Truth, Null}
use Rattle.tb_task.specs.declared.checks.Field.{Field}
use Rattle.tb_task.specs.declared.checks.Field.TheVariants.{EmptyDescription, BadTag, BadText, BadPair}
use Rattle.tb_task.specs.Limits.{longest_text}

-- a space, a tab, a line feed or a carriage return
unfoldable pub is_blank : ℕ → Bool
is_blank c = (c == 32) || (c == 9) || (c == 10) || (c == 13)

abbrev pub is_empty : List ℕ → Bool
is_empty [] = true
is_empty (c ∷ cs) = false

-- Rule: a tag isn't empty and has no blank. Refused as BadTask. Tried by tasks.
unfoldable pub is_bad_tag : List ℕ → Bool
is_bad_tag tag = is_empty tag || list_any is_blank tag

-- longer than a text may be, or with the character 0
unfoldable pub is_bad_text : List ℕ → Bool
is_bad_text text = nat_lt longest_text (length text) || list_any (λ c. c == 0) text

abbrev pub some_is_bad : Option (List ℕ) → Bool
some_is_bad None = false
some_is_bad (Some text) = is_bad_text text

abbrev pub is_bad_value : ExtraValue → Bool
is_bad_value (Text text) = is_bad_text text
is_bad_value (Whole n) = false
is_bad_value (Truth b) = false
is_bad_value Null = false

unfoldable pub is_bad_extra : Extra → Bool
is_bad_extra e = is_bad_text e.name || is_bad_value e.value

-- one of its texts is bad
unfoldable pub has_bad_text : Task → Bool
has_bad_text t =
    is_bad_text t.description || some_is_bad t.project || some_is_bad t.recur
    || list_any is_bad_text t.tags
    || list_any (λ (a : Annotation). is_bad_text a.description) t.annotations
    || list_any is_bad_extra t.extras

abbrev pub is_recurring : Status → Bool
is_recurring Pending = false
is_recurring Waiting = false
is_recurring Recurring = true
is_recurring Completed = false
is_recurring Deleted = false

abbrev pub is_step : Option (List ℕ) → Bool
is_step None = false
is_step (Some text) = is_some (step_of text)

-- a recurring task lacks its due date or a step that can be read
-- Rule: a template has a due date and a valid step. Refused as BadTask. Tried by unreadable_step.
unfoldable pub has_bad_recurrence : Task → Bool
has_bad_recurrence t = is_recurring t.status && not (is_some t.due && is_step t.recur)

-- a parent goes with a place in the parent's mask
-- Rule: a task has a parent and a place, or neither. Refused as BadTask. Tried by tasks.
abbrev pub has_half_link : Task → Bool
has_half_link t = not (beq (is_some t.parent) (is_some t.imask))

-- an extra attribute has a name of the format's own
abbrev pub has_known_name : Extra → Bool
has_known_name e = is_attribute e.name

unfoldable pub has_bad_pair : Task → Bool
has_bad_pair t = has_bad_recurrence t || has_half_link t || list_any has_known_name t.extras

abbrev pub refused : Option Field → Result (Unit {0}) Field
refused None = Ok tt
refused (Some fault) = Err fault

-- the first fault that the task has
-- Rule: descriptions come first, then tags, texts, pairs. Refused as BadTask. Tried by tasks.
unfoldable pub fault_of : Task → Option Field
fault_of t =
    if is_empty t.description then Some EmptyDescription
    else if list_any is_bad_tag t.tags then Some BadTag
    else if has_bad_text t then Some BadText
    else if has_bad_pair t then Some BadPair
    else None

abbrev pub checked : Task → Result (Unit {0}) Field
checked t = refused (fault_of t)
