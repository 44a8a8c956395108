-- What a command is to make of a board, by its effect.
use Rattle.std.specs.Prelude.{Result, Ok, Err, IfOk}
use Rattle.tb_board.specs.declared.board.Board.{Board}
use Rattle.tb_core.specs.declared.command.AnswerDetail.{AnswerDetail}
use Rattle.tb_core.specs.declared.command.BoardCommand.{BoardCommand}
use Rattle.tb_core.specs.declared.effect.Effect.{Effect}
use Rattle.tb_core.specs.declared.judged.CommandFailure.{CommandFailure}
use Rattle.tb_core.specs.declared.refusal.Refusal.{Refusal}
use Rattle.tb_core.specs.Effect.{Fits, GivesEffect, GivesPlan, PlanFits, planned}

pub planned_gives : (b : Board) (c : BoardCommand) (r : Result Effect CommandFailure) (expected : Result (Board × AnswerDetail) Refusal)
    → GivesEffect b r expected → GivesPlan b c (planned r) expected
planned_gives b c (Ok e) expected gives = gives
planned_gives b c (Err failure) expected gives = gives

pub planned_fits : (b : Board) (r : Result Effect CommandFailure) → IfOk r (λ e. Fits b e.change) → IfOk (planned r) (PlanFits b)
planned_fits b (Ok e) fits = fits
planned_fits b (Err failure) fits = tt
