-- What a decision on a board gives.
use Rattle.std.specs.Prelude.{◌≡◌, ℕ, None, Result, Ok, Err}
use Rattle.tb_board.specs.declared.board.Board.{Board}
use Rattle.tb_core.specs.declared.command.BoardAnswer.{BoardAnswer}
use Rattle.tb_core.specs.declared.command.BoardCommand.{BoardCommand}
use Rattle.tb_core.specs.declared.command.BoardCommand.TheVariants.{Add}
use Rattle.tb_core.specs.declared.deciding.Accepted.{Accepted}
use Rattle.tb_core.specs.declared.deciding.Drafted.{Drafted}
use Rattle.tb_core.specs.declared.judged.CommandFailure.{CommandFailure}
use Rattle.tb_core.specs.declared.refusal.Refusal.{Refusal}
use Rattle.tb_core.specs.Add.{add_refusals}
use Rattle.tb_board.specs.Changing.{IsDraft, replayed}
use Rattle.tb_core.specs.Apply.{outcome}
use Rattle.tb_core.specs.Refusals.{Fails, least}
use Rattle.tb_task.specs.declared.incoming.Incoming.{Incoming}

-- the changes are those of the board, and make the board that is expected of it; the answer is the expected one
pub record IsAccepted (b : Board) (c : BoardCommand) (m : ℕ) (a : Accepted) : Type 0 where
  pub made : IsDraft b (record { board = replayed b a.changes; changes = a.changes })
  pub gives : outcome b c m ≡ Ok (replayed b a.changes, a.answer)

abbrev pub GivesOutcome : Board → BoardCommand → ℕ → Result Accepted CommandFailure → Type 0
GivesOutcome b c m (Ok a) = IsAccepted b c m a
GivesOutcome b c m (Err e) = Fails e (outcome b c m)

-- the board and the answer are those that are expected
abbrev pub GivesDraft : Result Drafted CommandFailure → Result (Board × BoardAnswer) Refusal → Type 0
GivesDraft (Ok d) expected = expected ≡ Ok (d.draft.board, d.answer)
GivesDraft (Err e) expected = Fails e expected

-- a board takes the task that a command adds
abbrev pub TakesAdded : Board → BoardCommand → Type 0
TakesAdded b c = (i : Incoming) → c ≡ Add i → least (add_refusals b i) ≡ None

-- the command is refused on the board, whenever it wakes
abbrev pub IsRefused : Board → BoardCommand → Refusal → Type 0
IsRefused b c refusal = (m : ℕ) → outcome b c m ≡ Err refusal
