use Rattle.std.proofs.Common.{◌≡◌, [], drop, map}
use Rattle.tb_cleaning.specs.Entries.{seen}
use Rattle.tb_cleaning.specs.Losses.{all_drops}
use Rattle.tb_cleaning.proofs.losses.all_drops.Given as goal

abbrev pub invariant-loop-entry : goal.invariant-loop-entry
invariant-loop-entry l = all_drops l.found (map (λ e. seen e.now) (drop l.entry-index l.entries)) ≡ all_drops [] (map (λ e. seen e.now) l.entries)
