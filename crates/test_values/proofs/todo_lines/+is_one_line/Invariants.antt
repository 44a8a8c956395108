use Rattle.std.proofs.Common.{length}
use Rattle.test_values.proofs.todo_lines.+is_one_line.Given as goal

abbrev pub decreases-is_one_line : goal.decreases-is_one_line
decreases-is_one_line l = length l.bytes.now
