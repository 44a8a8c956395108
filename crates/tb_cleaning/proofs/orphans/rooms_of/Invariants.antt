use Rattle.std.proofs.Common.{◌≡◌, map, take}
use Rattle.tb_cleaning.specs.Entries.{seen}
use Rattle.tb_cleaning.specs.Orphans.{rooms_of}
use Rattle.tb_cleaning.proofs.orphans.rooms_of.Given as goal

abbrev pub invariant-loop-entry : goal.invariant-loop-entry
invariant-loop-entry l = l.rooms.items ≡ rooms_of (map (λ e. seen e.now) (take l.entry-index l.entries))
