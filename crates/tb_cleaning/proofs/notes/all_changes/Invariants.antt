use Rattle.std.proofs.Common.{◌≡◌, [], drop, map}
use Rattle.tb_cleaning.specs.Entries.{seen}
use Rattle.tb_cleaning.specs.Notes.{all_changes}
use Rattle.tb_cleaning.proofs.notes.all_changes.Given as goal

abbrev pub invariant-loop-entry : goal.invariant-loop-entry
invariant-loop-entry l = all_changes l.found (map (λ e. seen e.now) (drop l.entry-index l.entries)) ≡ all_changes [] (map (λ e. seen e.now) l.entries)
