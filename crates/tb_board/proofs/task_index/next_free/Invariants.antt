use Rattle.std.proofs.Common.{◌≡◌, ◌≤◌, ◌<◌, ◌-◌, ℕ, true}
use Rattle.std.specs.Prelude.{is_some}
use Rattle.std.specs.BTreeMap.{get}
use Rattle.std.specs.Ordering.{nat_cmp}
use Rattle.tb_task.specs.TaskId.{made}
use Rattle.tb_board.proofs.task_index.next_free.Given as goal

abbrev pub invariant-loop-board : goal.invariant-loop-board
invariant-loop-board l =
    record {
      first : 1 ≤ l.number;
      from : l.fn.from ≤ l.number;
      taken : (k : ℕ) → l.fn.from ≤ k → k < l.number → is_some (get nat_cmp l.places (made l.board k)) ≡ true;
    }

abbrev pub decreases-loop-board : goal.decreases-loop-board
decreases-loop-board l = 4294967295 - l.number
