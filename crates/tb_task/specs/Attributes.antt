-- The attributes that Taskwarrior's task format knows, of which id, urgency and mask aren't kept in a task.
use Rattle.std.specs.Prelude.{ℕ, Bool, List, [], ◌∷◌, bytes_eq, codes}
use Rattle.std.specs.List.{list_any}

-- Rule: these names are attributes, and any other is an extra. Tried by edits.
abbrev pub attribute_names : List (List ℕ)
attribute_names =
    codes "annotations" ∷ codes "depends" ∷ codes "description" ∷ codes "due" ∷ codes "end"
    ∷ codes "entry" ∷ codes "id" ∷ codes "imask"
    ∷ codes "mask" ∷ codes "modified" ∷ codes "parent" ∷ codes "priority" ∷ codes "project"
    ∷ codes "recur" ∷ codes "scheduled" ∷ codes "start"
    ∷ codes "status" ∷ codes "tags" ∷ codes "until" ∷ codes "urgency" ∷ codes "uuid"
    ∷ codes "wait" ∷ []

abbrev pub is_attribute : List ℕ → Bool
is_attribute name = list_any (bytes_eq name) attribute_names
