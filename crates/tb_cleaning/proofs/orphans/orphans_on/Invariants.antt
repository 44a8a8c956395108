use Rattle.std.proofs.Common.{◌≡◌, [], drop, map}
use Rattle.tb_cleaning.specs.Entries.{seen}
use Rattle.tb_cleaning.specs.Orphans.{orphans_on}
use Rattle.tb_cleaning.proofs.orphans.orphans_on.Given as goal

abbrev pub invariant-loop-entry : goal.invariant-loop-entry
invariant-loop-entry l = orphans_on l.ids l.rooms l.claims l.found (map (λ e. seen e.now) (drop l.entry-index l.entries)) ≡ orphans_on l.ids l.rooms [] [] (map (λ e. seen e.now) l.entries)
