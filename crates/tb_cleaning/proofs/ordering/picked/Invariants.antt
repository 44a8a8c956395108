use Rattle.std.proofs.Common.{◌≡◌, [], drop, map}
use Rattle.tb_cleaning.specs.Entries.{seen}
use Rattle.tb_cleaning.specs.Ordering.{picked_on}
use Rattle.tb_cleaning.proofs.ordering.picked.Given as goal

abbrev pub invariant-loop-place : goal.invariant-loop-place
invariant-loop-place l = picked_on (map seen l.entries) (map (λ e. seen e.now) l.found.items) (drop l.place-index l.places) ≡ picked_on (map seen l.entries) [] l.places
