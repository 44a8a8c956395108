use Rattle.std.proofs.Common.{◌≡◌, ℕ, take}
use Rattle.tb_import.specs.Entering.{is_gone}
use Rattle.tb_import.specs.Sets.{has_place}
use Rattle.tb_import.proofs.places.Places.of.Given as goal

abbrev pub invariant-loop-item : goal.invariant-loop-item
invariant-loop-item l = (id k : ℕ) → has_place l.places id k ≡ is_gone (take l.item-index l.gone) id k
