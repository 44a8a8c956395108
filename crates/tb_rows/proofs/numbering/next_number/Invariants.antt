use Rattle.std.proofs.Common.{◌≡◌, ◌≤◌, ◌<◌, ◌-◌, ℕ, true}
use Rattle.tb_task.specs.TaskId.{made}
use Rattle.tb_board.specs.Board.{is_on, with_task}
use Rattle.tb_rows.proofs.numbering.next_number.Given as goal

abbrev pub invariant-loop-first : goal.invariant-loop-first
invariant-loop-first l =
    record {
      from : 1 ≤ l.number;
      taken : (k : ℕ) → 1 ≤ k → k < l.number → is_on (with_task l.board l.task) (made l.board.number k) ≡ true;
    }

abbrev pub decreases-loop-first : goal.decreases-loop-first
decreases-loop-first l = 4294967295 - l.number
