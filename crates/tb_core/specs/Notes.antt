-- Annotations that are added and removed.
use Rattle.std.specs.Prelude.{ℕ, Bool, List, [], ◌∷◌, ◌++◌, Option, Some, None, if◌then◌else◌}
use Rattle.std.specs.List.{list_any}
use Rattle.std.specs.Set.{remove_key}
use Rattle.std.specs.Str.{bytes_eq}
use Rattle.tb_task.specs.declared.task.Annotation.{Annotation}
use Rattle.tb_task.specs.declared.task.Task.{Task}
use Rattle.tb_task.specs.declared.checks.Field.{Field}
use Rattle.tb_task.specs.declared.checks.Field.TheVariants.{EmptyDescription, BadText}
use Rattle.tb_task.specs.Checks.{is_bad_text, is_empty}

-- an annotation without text, or with a bad one
-- Rule: a note is a text, and isn't empty. Refused as BadTask. Tried by note_and_link_bodies.
abbrev pub note_fault : List ℕ → Option Field
note_fault text = if is_empty text then Some EmptyDescription else if is_bad_text text
    then Some BadText else None

abbrev pub says : List ℕ → Annotation → Bool
says text a = bytes_eq a.description text

abbrev pub has_note : List ℕ → Task → Bool
has_note text t = list_any (says text) t.annotations

-- the annotation goes last
-- Rule: a new note goes last. Tried by links_and_notes_removed.
abbrev pub annotated : ℕ → List ℕ → Task → Task
annotated m text t =
    record t {
      annotations = t.annotations ++ record { entry = m; description = text } ∷ [];
      modified = Some m;
    }

-- without the first annotation that says this
-- Rule: of equal notes the first is removed. Tried by links_and_notes_removed.
abbrev pub denotated : ℕ → List ℕ → Task → Task
denotated m text t =
    record t { annotations = remove_key (says text) t.annotations; modified = Some m }
