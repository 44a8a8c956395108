use Rattle.std.proofs.Common.{◌≡◌, map, take}
use Rattle.tb_cleaning.specs.Entries.{seen}
use Rattle.tb_cleaning.specs.Ordering.{is_left_out}
use Rattle.tb_cleaning.proofs.ordering.left_out.Given as goal

abbrev pub invariant-loop-entry : goal.invariant-loop-entry
invariant-loop-entry l = l.marks.items ≡ map is_left_out (map seen (take l.entry-index l.entries))
