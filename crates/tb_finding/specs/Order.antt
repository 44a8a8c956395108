-- The order in which found tasks are shown.
use Rattle.std.specs.Prelude.{ℕ, ◌+◌, List, [], ◌∷◌, ◌++◌, length, Option, Some, None, if◌then◌else◌}
use Rattle.std.specs.BTreeSet.{insert_key}
use Rattle.std.specs.Cmp.Lexicographic.{slice_cmp}
use Rattle.std.specs.Ordering.{nat_cmp, ordering_then}
use Rattle.std.specs.Str.{bytes_eq}
use Rattle.std.specs.declared.cmp.Ordering.{Ordering}
use Rattle.tb_finding.specs.Board.{Text}
use Rattle.tb_finding.specs.Tests.{is_found}
use Rattle.tb_finding.specs.declared.look.Look.{Look}
use Rattle.tb_graph.specs.Marks.{is_marked}
use Rattle.tb_my.specs.declared.query.Query.{Query}
use Rattle.tb_my.specs.declared.query.Sort.{Sort}
use Rattle.tb_my.specs.declared.query.Sort.TheVariants as sort
use Rattle.tb_my.specs.declared.zone.Clock.{Clock}
use Rattle.tb_report.specs.Rank.{Rank, ordered, rank_order}
use Rattle.tb_report.specs.Urgencies.{urgency_of}
use Rattle.tb_task.specs.declared.task.Task.{Task}

-- what goes before all else, and then the rank of the listing: urgency and place
abbrev pub Key : Type 0
Key = ℕ × Rank

-- Rule: `tb list` goes by the order that is asked for, then by falling urgency, then by place. Tried by my.sh.
abbrev pub key_order : Key → Key → Ordering
key_order a b = ordering_then (nat_cmp a.0 b.0) (rank_order a.1 b.1)

-- ---- projects by their bytes

abbrev pub with_project : List Text → Option Text → List Text
with_project found None = found
with_project found (Some project) = insert_key (slice_cmp nat_cmp) found project

-- all projects of these tasks, each once, after those found
abbrev pub with_projects : List Text → List Task → List Text
with_projects found [] = found
with_projects found (t ∷ tasks) = with_projects (with_project found t.project) tasks

-- how many stand before a project
abbrev pub place_among : Text → List Text → ℕ
place_among project [] = 0
place_among project (other ∷ projects) =
    if bytes_eq project other then 0 else place_among project projects + 1

-- without a project last
abbrev pub project_place : List Text → Option Text → ℕ
project_place projects None = length projects
project_place projects (Some project) = place_among project projects

-- ---- keys

-- without a due date last, after the year 9999
abbrev pub due_or_last : Option ℕ → ℕ
due_or_last None = 253402300800
due_or_last (Some due) = due

abbrev pub first_key : List Text → Sort → Task → ℕ
first_key projects sort.Urgency t = 0
first_key projects sort.Due t = due_or_last t.due
first_key projects sort.Project t = project_place projects t.project

abbrev pub rank_of : Clock → Look → ℕ → Task → Rank
rank_of clock look place t = (
  record {
    0 = urgency_of (is_marked look.blocked place) (is_marked look.blocking place) clock.moment t;
  },
  place,
)

abbrev pub key_if_found : Clock → Query → List Text → Look → ℕ → Task → List Key
key_if_found clock query projects look place t =
    if is_found clock query (is_marked look.blocked place) t
    then (first_key projects query.sort t, rank_of clock look place t) ∷ [] else []

-- the keys of the found ones of these tasks, of which the first stands at a place
abbrev pub keys_from : Clock → Query → List Text → Look → ℕ → List Task → List Key
keys_from clock query projects look place [] = []
keys_from clock query projects look place (t ∷ tasks) =
    key_if_found clock query projects look place t
    ++ keys_from clock query projects look (place + 1) tasks

-- the found tasks of a board, in the order that is asked for
unfoldable pub found : Clock → Query → Look → List Key
found clock query look = ordered key_order
    (keys_from clock query (with_projects [] look.tasks) look 0 look.tasks)
