use Rattle.std.proofs.Common.{◌≡◌, ◌++◌, ◌-◌, ◌≤◌, [], length, map, replicate, take}
use Rattle.tb_board.specs.Tasks.{ids}
use Rattle.tb_board.specs.Links.{depends_of, places_in}
use Rattle.tb_board.proofs.links.links_by.Given as goal

abbrev pub invariant-loop-from : goal.invariant-loop-from
invariant-loop-from l =
    record {
      within : l.from ≤ length l.tasks;
      links : l.links ≡ map (places_in (ids l.tasks)) (take l.from (depends_of l.tasks)) ++ replicate (length l.tasks - l.from) [];
    }
