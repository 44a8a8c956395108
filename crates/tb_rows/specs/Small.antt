-- Boards with room for no more tasks than a good board has.
use Rattle.std.specs.Prelude.{Bool, length, nat_le}
use Rattle.tb_board.specs.declared.board.Board.{Board}
use Rattle.tb_task.specs.Limits.{most_tasks}

abbrev pub has_few_tasks : Board → Bool
has_few_tasks b = nat_le (length b.tasks) most_tasks
