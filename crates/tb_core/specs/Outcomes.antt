-- What a command leaves.
use Rattle.std.specs.Prelude.{[], List, Option, Some, None, Result, Ok, Err}
use Rattle.tb_board.specs.declared.change.Change.{Change}
use Rattle.tb_core.specs.declared.command.Answer.{Answer}
use Rattle.tb_core.specs.declared.deciding.Decision.{Decision}
use Rattle.tb_core.specs.declared.refusal.Refusal.{Refusal}
use Rattle.tb_board.specs.declared.world.World.{World}

-- a world after a command, and the answer
pub record Outcome : Type 0 where
  pub world : World
  pub answer : Result Answer Refusal

-- a refusal changes nothing
abbrev pub given : Option Refusal → World → World → Answer → Outcome
given None before after answer = record { world = after; answer = Ok answer }
given (Some refusal) before after answer = record { world = before; answer = Err refusal }

-- the decision with these changes, unless it is a refusal
abbrev pub decision_of : Option Refusal → List Change → Answer → Decision
decision_of None changes answer = record { changes = changes; answer = Ok answer }
decision_of (Some refusal) changes answer = record { changes = []; answer = Err refusal }
