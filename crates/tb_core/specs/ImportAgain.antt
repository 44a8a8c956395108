-- An import that comes twice.
use Rattle.std.specs.Prelude.{◌≡◌, ℕ, false, List, Ok, length}
use Rattle.tb_board.specs.declared.world.World.{World}
use Rattle.tb_task.specs.declared.task.Task.{Task}
use Rattle.tb_core.specs.declared.command.Answer.TheVariants.{OnBoard}
use Rattle.tb_core.specs.declared.command.BoardAnswer.{BoardAnswer}
use Rattle.tb_core.specs.declared.command.Command.{Command}
use Rattle.tb_core.specs.declared.command.Command.TheVariants as command
use Rattle.tb_core.specs.declared.command.BoardCommand.TheVariants.{Import}
use Rattle.tb_core.specs.declared.command.Import.TheVariants.{Todo}
use Rattle.tb_core.specs.declared.command.AnswerDetail.TheVariants.{TodoImported}
use Rattle.tb_core.specs.Apply.{apply}

-- the tasks of lines of todo.txt are imported into a board
abbrev pub todo_import : ℕ → List Task → Command
todo_import n ts = command.OnBoard n (Import (Todo ts))

-- each task is known, and no instance came
abbrev pub known_answer : ℕ → List Task → BoardAnswer
known_answer board ts =
    record { board = board; added = 0; more = false; detail = TodoImported (length ts) 0 }

-- Where nothing more was wanted after an import, the same import right after it, at the same moment, is accepted, knows each
-- of its tasks, and leaves the world as it is.
abbrev pub ImportTodoAgain : Type 0
ImportTodoAgain = (w : World) (name : List ℕ) (n : ℕ) (ts : List Task) (m : ℕ) (a : BoardAnswer)
    → (apply w name (todo_import n ts) m).answer ≡ Ok (OnBoard a) → a.more ≡ false
    → apply (apply w name (todo_import n ts) m).world name (todo_import n ts) m
    ≡ record {
      world = (apply w name (todo_import n ts) m).world;
      answer = Ok (OnBoard (known_answer a.board ts));
    }
