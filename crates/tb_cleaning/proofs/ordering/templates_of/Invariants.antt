use Rattle.std.proofs.Common.{◌≡◌, map, take}
use Rattle.tb_cleaning.specs.Entries.{seen}
use Rattle.tb_cleaning.specs.Ordering.{has_instances}
use Rattle.tb_cleaning.proofs.ordering.templates_of.Given as goal

abbrev pub invariant-loop-entry : goal.invariant-loop-entry
invariant-loop-entry l = l.marks.items ≡ map has_instances (map seen (take l.entry-index l.entries))
