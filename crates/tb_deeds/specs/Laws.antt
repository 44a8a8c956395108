-- What is true of all deeds.
use Rattle.std.specs.Prelude.{◌≡◌, ℕ, false, Some, Ok}
use Rattle.tb_board.specs.declared.board.Board.{Board}
use Rattle.tb_core.specs.declared.command.AnswerDetail.TheVariants.{Swept}
use Rattle.tb_core.specs.declared.command.BoardCommand.TheVariants.{Sweep}
use Rattle.tb_core.specs.Apply.{board_answer, outcome}
use Rattle.tb_sweep.specs.Sweeping.{added, sweep}
use Rattle.tb_deeds.specs.declared.kind.DeedKind.{DeedKind}
use Rattle.tb_deeds.specs.Deeds.{is_swept}
use Rattle.tb_deeds.specs.Kinds.{kind_of_number, number_of}

-- each kind is found by its number
abbrev pub KindsHaveNumbers : Type 0
KindsHaveNumbers = (kind : DeedKind) → kind_of_number (number_of kind) ≡ Some kind

-- an accepted sweep gives the board as it is swept, and tells how many instances came
abbrev pub SweepsTellWhatCame : Type 0
SweepsTellWhatCame = (b : Board) (m : ℕ) → outcome b Sweep m ≡ Ok (sweep b m, board_answer b m Swept)

-- where no task wakes and no instance comes, the sweep leaves the board as it was
abbrev pub QuietSweepsChangeNothing : Type 0
QuietSweepsChangeNothing = (b : Board) (m : ℕ) → is_swept b m (added b m) ≡ false → sweep b m ≡ b
