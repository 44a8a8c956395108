-- The tasks of a text, each as an import would take it.
use Rattle.std.specs.Prelude.{ℕ, List, Option, Some, None, option_map}
use Rattle.serde_json.specs.Data.{Data}
use Rattle.serde_json.specs.View.{view}
use Rattle.tb_task.specs.declared.incoming.Incoming.{Incoming}
use Rattle.tb_cleaning.specs.Judging.{judged}
use Rattle.tb_cleaning.specs.Respelling.{changes_of, item_of}
use Rattle.tb_cleaning.specs.Steps.{Text}
use Rattle.tb_cleaning.specs.declared.entry.Entry.{Entry}
use Rattle.tb_cleaning.specs.declared.verdict.Verdict.{Verdict}
use Rattle.tb_cleaning.specs.declared.verdict.Verdict.TheVariants.{Taken, Double, Refused}

-- the task as it is written now, what was changed, and whether it is taken
pub record Judged : Type 0 where
  pub item : Data
  pub changes : List Text
  pub verdict : Verdict

abbrev pub seen : Entry → Judged
seen e = record { item = view e.value; changes = e.changes; verdict = e.verdict }

abbrev pub entry_of : Data → Judged
entry_of d = record { item = item_of d; changes = changes_of d; verdict = judged (item_of d) }

abbrev pub taken_in : Verdict → Option Incoming
taken_in (Taken i) = Some i
taken_in Double = None
taken_in (Refused reason) = None

-- the identifier of a task that is taken
abbrev pub id_of : Judged → Option ℕ
id_of e = option_map (λ (i : Incoming). i.task.id) (taken_in e.verdict)
