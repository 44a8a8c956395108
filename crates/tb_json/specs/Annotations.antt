-- Annotations: an array of objects with a moment and a text. Their other members aren't looked at.
use Rattle.std.specs.Prelude.{ℕ, List, [], ◌∷◌, ◌++◌, Option, Some, None, option_and_then, codes}
use Rattle.serde_json.specs.Data.{Data, null, boolean, number, string, array, object, Items, no_items, item}
use Rattle.serde_json.specs.Find.{get}
use Rattle.tb_task.specs.declared.task.Annotation.{Annotation}
use Rattle.tb_json.specs.Attribute.{moment_form, text_form}

abbrev pub noted : Option (List ℕ) → ℕ → Option Annotation
noted None entry = None
noted (Some text) entry = Some (record { entry = entry; description = text })

-- both members have to be there, and the text may be empty
abbrev pub annotation_form : Data → Option Annotation
annotation_form d =
    option_and_then (noted (option_and_then text_form (get (codes "description") d)))
    (option_and_then moment_form (get (codes "entry") d))

-- the annotations of an array after those found: something else among them is wrong
abbrev pub annotations_of : List Annotation → Items → Option (List Annotation)
annotations_of found no_items = Some found
annotations_of found (item d ds) =
    option_and_then (λ a. annotations_of (found ++ a ∷ []) ds) (annotation_form d)

abbrev pub annotations_form : Data → Option (List Annotation)
annotations_form null = None
annotations_form (boolean b) = None
annotations_form (number n) = None
annotations_form (string s) = None
annotations_form (array ds) = annotations_of [] ds
annotations_form (object ms) = None
