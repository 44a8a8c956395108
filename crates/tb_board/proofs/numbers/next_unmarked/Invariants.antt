use Rattle.std.proofs.Common.{◌≡◌, ◌≤◌, ◌<◌, ◌-◌, ℕ, true, length}
use Rattle.tb_board.specs.Marks.{is_marked}
use Rattle.tb_board.proofs.numbers.next_unmarked.Given as goal

abbrev pub invariant-loop-number : goal.invariant-loop-number
invariant-loop-number l =
    record {
      from : l.next ≤ l.number;
      within : l.number ≤ length l.marks;
      passed : (n : ℕ) → l.next ≤ n → n < l.number → is_marked l.marks n ≡ true;
    }

abbrev pub decreases-loop-number : goal.decreases-loop-number
decreases-loop-number l = length l.marks - l.number
