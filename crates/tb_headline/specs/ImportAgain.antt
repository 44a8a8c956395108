-- An import of the task format that comes twice.
use Rattle.std.specs.Prelude.{◌≡◌, ℕ, false, List, Ok, length}
use Rattle.tb_task.specs.declared.incoming.Incoming.{Incoming}
use Rattle.tb_board.specs.declared.world.World.{World}
use Rattle.tb_core.specs.declared.command.Answer.TheVariants.{OnBoard}
use Rattle.tb_core.specs.declared.command.BoardAnswer.{BoardAnswer}
use Rattle.tb_core.specs.declared.command.Command.{Command}
use Rattle.tb_core.specs.declared.command.Command.TheVariants as command
use Rattle.tb_core.specs.declared.command.BoardCommand.TheVariants.{Import}
use Rattle.tb_core.specs.declared.command.Import.TheVariants.{Json}
use Rattle.tb_core.specs.declared.command.AnswerDetail.TheVariants.{Imported}
use Rattle.tb_core.specs.Apply.{apply}
use Rattle.tb_core.specs.GoodWorld.{IsGoodWorld}

-- the tasks of a Taskwarrior export are imported into a board
abbrev pub json_import : ℕ → List Incoming → Command
json_import n is = command.OnBoard n (Import (Json is))

-- each task is known, and no instance came
abbrev pub known_answer : ℕ → List Incoming → BoardAnswer
known_answer board is = record {
  board = board;
  added = 0;
  more = false;
  detail = Imported (record { known = length is; new = 0; dropped = 0; orphans = 0; unlinked = 0 });
}

-- Where nothing more was wanted after an import into a good world, the same import right after it, at the same moment, is accepted,
-- knows each of its tasks, and leaves the world as it is.
abbrev pub ImportJsonAgain : Type 0
ImportJsonAgain = (w : World) (name : List ℕ) (n : ℕ) (is : List Incoming) (m : ℕ) (a : BoardAnswer)
    → IsGoodWorld w
    → (apply w name (json_import n is) m).answer ≡ Ok (OnBoard a) → a.more ≡ false
    → apply (apply w name (json_import n is) m).world name (json_import n is) m
    ≡ record {
      world = (apply w name (json_import n is) m).world;
      answer = Ok (OnBoard (known_answer a.board is));
    }
