use Rattle.std.proofs.Common.{◌≡◌, [], drop, map}
use Rattle.tb_cleaning.specs.Entries.{seen}
use Rattle.tb_cleaning.specs.Losses.{links_from}
use Rattle.tb_cleaning.proofs.losses.links_from.Given as goal

abbrev pub invariant-loop-place : goal.invariant-loop-place
invariant-loop-place l = links_from l.ids l.place l.found (map (λ e. seen e.now) (drop l.place l.entries)) ≡ links_from l.ids 0 [] (map (λ e. seen e.now) l.entries)
