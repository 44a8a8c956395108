-- Why an import can't take a task.
use Rattle.std.specs.Prelude.{ℕ, ◌++◌, List, [], codes, Option, Some, None, Result, Ok, Err, if◌then◌else◌}
use Rattle.std.specs.Str.{bytes_eq}
use Rattle.serde_json.specs.Data.{Data}
use Rattle.tb_task.specs.Checks.{fault_of}
use Rattle.tb_task.specs.declared.checks.Field.{Field}
use Rattle.tb_task.specs.declared.checks.Field.TheVariants.{EmptyDescription, BadTag, BadText, BadPair}
use Rattle.tb_task.specs.declared.incoming.Incoming.{Incoming}
use Rattle.tb_task.specs.declared.task.Task.{Task}
use Rattle.tb_json.specs.Reading.{task_of}
use Rattle.tb_json.specs.declared.fault.JsonFault.{JsonFault}
use Rattle.tb_json.specs.declared.fault.JsonFault.TheVariants.{NotObject, BadField, Memory}
use Rattle.tb_cleaning.specs.Steps.{Text}
use Rattle.tb_cleaning.specs.Telling.{one_line}
use Rattle.tb_cleaning.specs.declared.judging.TheConstants.{A_LIST, A_MASK, A_MOMENT, A_NOTE, A_STATUS, A_TEXT, A_UUID, BAD_TAG, BAD_TEXT, LINKS, NO_DESCRIPTION, NO_DUE, NO_OBJECT, NO_STEP, NO_UUID}
use Rattle.tb_cleaning.specs.declared.verdict.Verdict.{Verdict}
use Rattle.tb_cleaning.specs.declared.verdict.Verdict.TheVariants.{Taken, Double, Refused}

-- what a member has to be
unfoldable pub form_of : Text → Text
form_of name =
    if bytes_eq name (codes "status") then A_STATUS.now
    else if bytes_eq name (codes "priority") then A_TEXT.now
    else if bytes_eq name (codes "project") then A_TEXT.now
    else if bytes_eq name (codes "recur") then A_TEXT.now
    else if bytes_eq name (codes "parent") then A_UUID.now
    else if bytes_eq name (codes "uuid") then A_UUID.now
    else if bytes_eq name (codes "mask") then A_MASK.now
    else if bytes_eq name (codes "tags") then A_LIST.now
    else if bytes_eq name (codes "depends") then LINKS.now
    else if bytes_eq name (codes "annotations") then A_NOTE.now
    else A_MOMENT.now

abbrev pub form_reason : Text → Text
form_reason name = codes "its " ++ (one_line name ++ (codes " isn't " ++ form_of name))

-- of the first member, in byte order, in a wrong form
abbrev pub member_reason : Text → Text
member_reason name =
    if bytes_eq name (codes "description") then NO_DESCRIPTION.now
    else form_reason name

abbrev pub step_reason : Option Text → Text
step_reason None = NO_STEP.now
step_reason (Some recur) =
    codes "it repeats by " ++ (one_line recur ++ codes ", which boards can't")

abbrev pub pair_reason : Task → Text
pair_reason t = if_due t.due t.recur
  where
    if_due : Option ℕ → Option Text → Text
    if_due None recur = NO_DUE.now
    if_due (Some due) recur = step_reason recur

abbrev pub field_reason : Task → Field → Text
field_reason t EmptyDescription = NO_DESCRIPTION.now
field_reason t BadTag = BAD_TAG.now
field_reason t BadText = BAD_TEXT.now
field_reason t BadPair = pair_reason t

abbrev pub unless_fault : Incoming → Option Field → Verdict
unless_fault i None = Taken i
unless_fault i (Some field) = Refused (field_reason i.task field)

abbrev pub if_named : Incoming → Verdict
if_named i = if i.named then unless_fault i (fault_of i.task) else Refused NO_UUID.now

abbrev pub of_read : Result Incoming JsonFault → Verdict
of_read (Ok i) = if_named i
of_read (Err NotObject) = Refused NO_OBJECT.now
of_read (Err (BadField name)) = Refused (member_reason name)
of_read (Err Memory) = Refused []

-- as an import reads the task and looks at it, at any moment
-- Rule: cleaning refuses what an import refuses. Tried by own_cleaning.sh.
abbrev pub judged : Data → Verdict
judged d = of_read (task_of 0 d)
