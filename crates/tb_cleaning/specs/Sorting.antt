-- Which of a text's tasks are taken: not a second one with a uuid, none that depends on itself, and no instance of a template that isn't.
use Rattle.std.specs.Prelude.{ℕ, ◌==◌, Bool, true, false, not, ◌&&◌, List, [], ◌∷◌, ◌++◌, length, codes, Option, Some, None, option_and_then, map, is_some, if◌then◌else◌}
use Rattle.std.specs.List.{list_any}
use Rattle.serde_json.specs.Data.{Data}
use Rattle.serde_json.specs.Find.{get}
use Rattle.tb_graph.specs.Marks.{is_marked}
use Rattle.tb_task.specs.TaskId.{id_text}
use Rattle.tb_task.specs.declared.incoming.Incoming.{Incoming}
use Rattle.tb_json.specs.Attribute.{id_form}
use Rattle.tb_cleaning.specs.Circles.{circles_of}
use Rattle.tb_cleaning.specs.Entries.{Judged, entry_of, id_of, taken_in}
use Rattle.tb_cleaning.specs.Places.{depends_of, parent_in, place_of, with_place}
use Rattle.tb_cleaning.specs.Steps.{Text}
use Rattle.tb_cleaning.specs.declared.sorting.TheConstants.{IN_CIRCLE}
use Rattle.tb_cleaning.specs.declared.verdict.Verdict.{Verdict}
use Rattle.tb_cleaning.specs.declared.verdict.Verdict.TheVariants.{Taken, Double, Refused}

-- ---- doubles, and tasks that wait for themselves

abbrev pub is_place : ℕ → Option ℕ → Bool
is_place place None = false
is_place place (Some other) = other == place

-- of a task at a place, where the identifiers of all are known, and which of them depend on themselves
-- Rule: of tasks with the same uuid, cleaning takes the first. Tried by own_cleaning.sh.
abbrev pub change_at : List (Option ℕ) → List Bool → ℕ → Option ℕ → Option Verdict
change_at ids circles place None = None
change_at ids circles place (Some id) =
    if not (is_place place (place_of ids id)) then Some Double
    else if is_marked circles place then Some (Refused IN_CIRCLE.now)
    else None

abbrev pub with_change : Judged → Option Verdict → Judged
with_change e None = e
with_change e (Some verdict) = record e { verdict = verdict }

-- the tasks after those found
abbrev pub sorted_on : List (Option ℕ) → List Bool → List Judged → List Judged → List Judged
sorted_on ids circles found [] = found
sorted_on ids circles found (e ∷ es) =
    sorted_on ids circles
    (found ++ with_change e (change_at ids circles (length found) (id_of e)) ∷ []) es

abbrev pub sorted_by : List (Option ℕ) → List Judged → List Judged
sorted_by ids es = sorted_on ids (circles_of (map (depends_of ids) es)) [] es

abbrev pub sorted_of : List Judged → List Judged
sorted_of es = sorted_by (map id_of es) es

-- ---- instances of templates that aren't taken

-- the uuid of a task that is refused
abbrev pub refused_id : Judged → Option ℕ
refused_id e = of_verdict e.verdict
  where
    of_verdict : Verdict → Option ℕ
    of_verdict (Taken i) = None
    of_verdict Double = None
    of_verdict (Refused reason) = option_and_then id_form (get (codes "uuid") e.item)

abbrev pub refused_on : List ℕ → List Judged → List ℕ
refused_on found [] = found
refused_on found (e ∷ es) = refused_on (with_place found (refused_id e)) es

abbrev pub lost_reason : ℕ → Text
lost_reason id = codes "its template can't be taken: " ++ id_text id

abbrev pub is_lost : List (Option ℕ) → List ℕ → ℕ → Bool
is_lost ids refused id =
    list_any (λ other. other == id) refused && not (is_some (place_of ids id))

abbrev pub loss_of : List (Option ℕ) → List ℕ → Option ℕ → Option Verdict
loss_of ids refused None = None
loss_of ids refused (Some id) =
    if is_lost ids refused id then Some (Refused (lost_reason id)) else None

abbrev pub kept_on : List (Option ℕ) → List ℕ → List Judged → List Judged → List Judged
kept_on ids refused found [] = found
kept_on ids refused found (e ∷ es) =
    kept_on ids refused
    (found ++ with_change e (loss_of ids refused (parent_in (taken_in e.verdict))) ∷ []) es

abbrev pub kept_of : List Judged → List Judged
kept_of es = kept_on (map id_of es) (refused_on [] es) [] es

-- the tasks of a text, each with its verdict
abbrev pub sorted : List Data → List Judged
sorted ds = kept_of (sorted_of (map entry_of ds))
