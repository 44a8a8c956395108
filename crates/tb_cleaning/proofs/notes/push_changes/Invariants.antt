use Rattle.std.proofs.Common.{◌≡◌, drop}
use Rattle.serde_json.specs.View.{view}
use Rattle.tb_cleaning.specs.Notes.{changes_on}
use Rattle.tb_cleaning.proofs.notes.push_changes.Given as goal

abbrev pub invariant-loop-change : goal.invariant-loop-change
invariant-loop-change l = changes_on l.found (view l.entry.value) (drop l.change-index l.change-items) ≡ changes_on l.fn.found (view l.entry.value) l.entry.changes
