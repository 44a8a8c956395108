use Rattle.std.proofs.Common.{◌≡◌, filter, take}
use Rattle.tb_import.specs.Sets.{has}
use Rattle.tb_import.proofs.entering.linked_depends.Given as goal

abbrev pub invariant-loop-id : goal.invariant-loop-id
invariant-loop-id l = l.kept ≡ filter (has l.ids) (take l.id-index l.id-items)
