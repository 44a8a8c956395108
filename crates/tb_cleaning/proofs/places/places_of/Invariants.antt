use Rattle.std.proofs.Common.{◌≡◌, [], drop}
use Rattle.tb_cleaning.specs.Places.{places_on}
use Rattle.tb_cleaning.proofs.places.places_of.Given as goal

abbrev pub invariant-loop-id : goal.invariant-loop-id
invariant-loop-id l = places_on l.ids l.found (drop l.id-index l.wanted) ≡ places_on l.ids [] l.wanted
