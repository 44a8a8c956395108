-- The JSON of a task: the members that it has, in byte order of their names, without a space.
use Rattle.std.specs.Prelude.{ℕ, List, [], ◌∷◌, Option, Some, None, option_map, codes, map}
use Rattle.serde_json.specs.Data.{Data, null, boolean, number, string, array, object, Items, no_items, item, Members, no_members, member, put, unsigned}
use Rattle.serde_json.specs.Find.{of_integer}
use Rattle.serde_json.specs.Written.{compact_text}
use Rattle.tb_task.specs.MomentText.{moment_text}
use Rattle.tb_task.specs.Priority.{priority_letter}
use Rattle.tb_task.specs.Status.{status_word}
use Rattle.tb_task.specs.TaskId.{id_text}
use Rattle.tb_task.specs.declared.extra.Extra.{Extra}
use Rattle.tb_task.specs.declared.extra.ExtraValue.{ExtraValue}
use Rattle.tb_task.specs.declared.extra.ExtraValue.TheVariants.{Text, Whole, Truth, Null}
use Rattle.tb_task.specs.declared.incoming.Shown.{Shown}
use Rattle.tb_task.specs.declared.priority.Priority.{Priority}
use Rattle.tb_task.specs.declared.status.Status.{Status}
use Rattle.tb_task.specs.declared.task.Annotation.{Annotation}
use Rattle.tb_task.specs.declared.task.Task.{Task}

-- a name, and its value where there is one
abbrev pub Field : Type 0
Field = List ℕ × Option Data

abbrev pub with_field : List ℕ → Option Data → Members → Members
with_field name None ms = ms
with_field name (Some d) ms = put name d ms

-- the members with those of the fields, each at its place in byte order
abbrev pub with_fields : List Field → Members → Members
with_fields [] ms = ms
with_fields (f ∷ fs) ms = with_fields fs (with_field f.0 f.1 ms)

-- ---- the values

abbrev pub moment_data : ℕ → Data
moment_data m = string (moment_text m)

abbrev pub id_data : ℕ → Data
id_data id = string (id_text id)

abbrev pub status_data : Status → Data
status_data s = string (status_word s)

abbrev pub priority_data : Priority → Data
priority_data p = string (priority_letter p)

abbrev pub imask_data : ℕ → Data
imask_data n = number (unsigned n)

-- no empty mask is written
abbrev pub mask_data : Option (List ℕ) → Option Data
mask_data None = None
mask_data (Some []) = None
mask_data (Some (c ∷ cs)) = Some (string (c ∷ cs))

abbrev pub items_of_texts : List (List ℕ) → Items
items_of_texts [] = no_items
items_of_texts (t ∷ ts) = item (string t) (items_of_texts ts)

-- and no empty array
abbrev pub texts_data : List (List ℕ) → Option Data
texts_data [] = None
texts_data (t ∷ ts) = Some (array (items_of_texts (t ∷ ts)))

abbrev pub items_of_ids : List ℕ → Items
items_of_ids [] = no_items
items_of_ids (id ∷ ids) = item (id_data id) (items_of_ids ids)

abbrev pub ids_data : List ℕ → Option Data
ids_data [] = None
ids_data (id ∷ ids) = Some (array (items_of_ids (id ∷ ids)))

unfoldable pub annotation_data : Annotation → Data
annotation_data a =
    object (member (codes "description") (string a.description)
    (member (codes "entry") (moment_data a.entry) no_members))

abbrev pub items_of_annotations : List Annotation → Items
items_of_annotations [] = no_items
items_of_annotations (a ∷ as_) = item (annotation_data a) (items_of_annotations as_)

abbrev pub annotations_data : List Annotation → Option Data
annotations_data [] = None
annotations_data (a ∷ as_) = Some (array (items_of_annotations (a ∷ as_)))

abbrev pub value_data : ExtraValue → Data
value_data (Text s) = string s
value_data (Whole z) = number (of_integer z)
value_data (Truth b) = boolean b
value_data Null = null

-- ---- a whole task

abbrev pub extra_fields : List Extra → List Field
extra_fields es = map (λ e. (e.name, Some (value_data e.value))) es

-- from annotations to entry
abbrev pub early_fields : Task → List Field
early_fields t =
    (codes "annotations", annotations_data t.annotations)
    ∷ (codes "depends", ids_data t.depends)
    ∷ (codes "description", Some (string t.description))
    ∷ (codes "due", option_map moment_data t.due)
    ∷ (codes "end", option_map moment_data t.end)
    ∷ (codes "entry", Some (moment_data t.entry))
    ∷ []

-- from imask to recur
abbrev pub middle_fields : Option (List ℕ) → Task → List Field
middle_fields mask t =
    (codes "imask", option_map imask_data t.imask)
    ∷ (codes "mask", mask_data mask)
    ∷ (codes "modified", option_map moment_data t.modified)
    ∷ (codes "parent", option_map id_data t.parent)
    ∷ (codes "priority", option_map priority_data t.priority)
    ∷ (codes "project", option_map string t.project)
    ∷ (codes "recur", option_map string t.recur)
    ∷ []

-- from scheduled to wait
abbrev pub late_fields : Task → List Field
late_fields t =
    (codes "scheduled", option_map moment_data t.scheduled)
    ∷ (codes "start", option_map moment_data t.start)
    ∷ (codes "status", Some (status_data t.status))
    ∷ (codes "tags", texts_data t.tags)
    ∷ (codes "until", option_map moment_data t.until)
    ∷ (codes "uuid", Some (id_data t.id))
    ∷ (codes "wait", option_map moment_data t.wait)
    ∷ []

-- the members of a task with a mask
unfoldable pub members_of : Option (List ℕ) → Task → Members
members_of mask t =
    with_fields (late_fields t)
    (with_fields (middle_fields mask t)
    (with_fields (early_fields t) (with_fields (extra_fields t.extras) no_members)))

abbrev pub task_json : Option (List ℕ) → Task → Data
task_json mask t = object (members_of mask t)

-- the text of a task as it is shown
abbrev pub shown_text : Shown → List ℕ
shown_text s = compact_text (task_json s.mask s.task)
