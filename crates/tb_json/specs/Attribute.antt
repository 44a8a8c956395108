-- The attributes of a task in JSON, each a member of its name in its form.
use Rattle.std.specs.Prelude.{ℕ, List, [], ◌∷◌, length, nat_le, if◌then◌else◌, Option, Some, None, option_map, option_and_then, Result, Ok, Err, codes}
use Rattle.serde_json.specs.Data.{Data, null, boolean, number, string, array, object}
use Rattle.serde_json.specs.Find.{get, as_str}
use Rattle.tb_task.specs.Mask.{mask_in}
use Rattle.tb_task.specs.MomentText.{moment_of}
use Rattle.tb_task.specs.Priority.{priority_of}
use Rattle.tb_task.specs.Status.{status_of}
use Rattle.tb_task.specs.TaskId.{read_id}
use Rattle.tb_task.specs.declared.priority.Priority.{Priority}
use Rattle.tb_task.specs.declared.status.Status.{Status}
use Rattle.tb_values.specs.Outcome.{◌>>=◌}
use Rattle.tb_json.specs.declared.fault.JsonFault.{JsonFault}
use Rattle.tb_json.specs.declared.fault.JsonFault.TheVariants.{BadField}
use Rattle.tb_task.specs.Limits.{longest_text}

-- null and the empty text mean that an attribute is absent
-- Rule: null and the empty text are absence. Tried by tasks_read.
abbrev pub unless_blank : Data → Option Data
unless_blank null = None
unless_blank (boolean b) = Some (boolean b)
unless_blank (number n) = Some (number n)
unless_blank (string []) = None
unless_blank (string (x ∷ xs)) = Some (string (x ∷ xs))
unless_blank (array ds) = Some (array ds)
unless_blank (object ms) = Some (object ms)

-- the value that is given for a name
abbrev pub given : List ℕ → Data → Option Data
given name d = option_and_then unless_blank (get name d)

-- the value, or the fault of that name
abbrev pub well_formed : {A : Type 0} → List ℕ → Option A → Result A JsonFault
well_formed name None = Err (BadField name)
well_formed name (Some a) = Ok a

abbrev pub kept : {A : Type 0} → Result A JsonFault → Result (Option A) JsonFault
kept (Ok a) = Ok (Some a)
kept (Err e) = Err e

abbrev pub optional : {A : Type 0} → (Data → Option A) → List ℕ → Option Data
    → Result (Option A) JsonFault
optional form name None = Ok None
optional form name (Some d) = kept (well_formed name (form d))

-- an attribute that may be absent: a value in another form is a fault
abbrev pub attribute : {A : Type 0} → (Data → Option A) → List ℕ → Data
    → Result (Option A) JsonFault
attribute form name d = optional form name (given name d)

-- an attribute that has to be there, and may be the empty text
abbrev pub required : {A : Type 0} → (Data → Option A) → List ℕ → Data → Result A JsonFault
required form name d = well_formed name (option_and_then form (get name d))

-- ---- the forms of one text

abbrev pub text_form : Data → Option (List ℕ)
text_form d = as_str d

abbrev pub moment_form : Data → Option ℕ
moment_form d = option_and_then moment_of (as_str d)

abbrev pub id_form : Data → Option ℕ
id_form d = option_and_then read_id (as_str d)

abbrev pub status_form : Data → Option Status
status_form d = option_and_then status_of (as_str d)

-- at most 16,384 characters
abbrev pub mask_form : Data → Option (List ℕ)
mask_form d = option_and_then
    (λ text. if nat_le (length text) longest_text then mask_in text else None) (as_str d)

-- a text that names no priority is dropped
abbrev pub priority_form : Data → Option (Option Priority)
priority_form d = option_map priority_of (as_str d)

-- the value of an attribute that was kept or dropped, or is absent
abbrev pub value_kept : {A : Type 0} → Option (Option A) → Option A
value_kept None = None
value_kept (Some o) = o

abbrev pub members_dropped : {A : Type 0} → Option (Option A) → ℕ
members_dropped None = 0
members_dropped (Some None) = 1
members_dropped (Some (Some a)) = 0

-- the priority, and how many members were dropped for it
abbrev pub priority_in : Data → Result (Option Priority × ℕ) JsonFault
priority_in d = attribute priority_form (codes "priority") d >>= λ p. Ok
    (value_kept p, members_dropped p)
