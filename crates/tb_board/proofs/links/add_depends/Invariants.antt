use Rattle.std.proofs.Common.{◌≡◌, ◌++◌, [], get_or, set, take}
use Rattle.tb_board.specs.Tasks.{ids}
use Rattle.tb_board.specs.Links.{places_in}
use Rattle.tb_board.proofs.links.add_depends.Given as goal

abbrev pub invariant-loop-id : goal.invariant-loop-id
invariant-loop-id l = l.links ≡ set l.fn.links l.from (get_or l.fn.links l.from [] ++ places_in (ids l.tasks) (take l.id-index l.id-items))
