-- Found tasks as JSON: each as the board keeps it, and beside that its place from 1, its urgency, and whether it is blocked and blocking.
use Rattle.std.specs.Prelude.{ℕ, ◌+◌, Bool, true, false, List, [], ◌∷◌, ◌++◌, codes, decimal, slice_get, Option, Some, None, unwrap_or}
use Rattle.tb_finding.specs.Board.{Text}
use Rattle.tb_finding.specs.Order.{Key}
use Rattle.tb_finding.specs.declared.look.Look.{Look}
use Rattle.tb_graph.specs.Marks.{is_marked}
use Rattle.tb_json.specs.ListText.{piece}
use Rattle.tb_json.specs.Stored.{stored_text}
use Rattle.tb_my.specs.Days.{before_key}
use Rattle.tb_report.specs.Row.{urgency_text}
use Rattle.tb_task.specs.declared.task.Task.{Task}

abbrev pub truth : Bool → Text
truth true = codes "true"
truth false = codes "false"

-- without the brace that ends an object
abbrev pub unended : Text → Text
unended text = unwrap_or (before_key (codes "}") text) text

abbrev pub json_marks : Look → ℕ → Text
json_marks look place =
    codes ",\"blocked\":" ++ (truth (is_marked look.blocked place)
    ++ (codes ",\"blocking\":" ++ truth (is_marked look.blocking place)))

abbrev pub json_numbers : Key → Text
json_numbers key =
    codes ",\"place\":" ++ (decimal (key.1.1 + 1)
    ++ (codes ",\"urgency\":" ++ (urgency_text key.1.0.0 ++ codes "}")))

abbrev pub json_task : Look → Key → Task → Text
json_task look key t =
    unended (stored_text t) ++ (json_marks look key.1.1 ++ json_numbers key)

abbrev pub json_at : Look → Key → Option Task → Bool → Text
json_at look key None is_first = []
json_at look key (Some t) is_first = piece is_first (json_task look key t)

-- each with a comma and a line feed before it, but the first
abbrev pub json_tasks : Look → Bool → List Key → Text
json_tasks look is_first [] = []
json_tasks look is_first (key ∷ keys) =
    json_at look key (slice_get look.tasks key.1.1) is_first ++ json_tasks look false keys

-- a list, with a task on each line
abbrev pub json_list : Look → List Key → Text
json_list look keys = codes "[\n" ++ (json_tasks look true keys ++ codes "\n]\n")
