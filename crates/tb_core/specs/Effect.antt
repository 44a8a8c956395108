-- What a command makes of a board of which it changes one task at most.
use Rattle.std.specs.Prelude.{◌≡◌, ◌<◌, ℕ, false, List, [], ◌∷◌, Result, Ok, Err, length, slice_set}
use Rattle.tb_task.specs.declared.task.Task.{Task}
use Rattle.tb_task.specs.Checks.{is_recurring}
use Rattle.tb_board.specs.declared.board.Board.{Board}
use Rattle.tb_board.specs.declared.change.Change.{Change}
use Rattle.tb_board.specs.declared.change.Change.TheVariants.{PutTask, SetAhead, SetTitle}
use Rattle.tb_board.specs.Board.{with_task}
use Rattle.tb_board.specs.Changing.{with_ahead, with_title}
use Rattle.tb_board.specs.Tasks.{wakes}
use Rattle.tb_sweep.specs.Quiet.{IsQuiet}
use Rattle.tb_core.specs.declared.command.AnswerDetail.{AnswerDetail}
use Rattle.tb_core.specs.declared.command.BoardCommand.{BoardCommand}
use Rattle.tb_core.specs.declared.command.BoardCommand.TheVariants.{Import}
use Rattle.tb_core.specs.declared.effect.Effect.{Effect}
use Rattle.tb_core.specs.declared.effect.Plan.{Plan}
use Rattle.tb_core.specs.declared.effect.Plan.TheVariants as plan
use Rattle.tb_core.specs.declared.effect.BoardChange.{BoardChange}
use Rattle.tb_core.specs.declared.effect.BoardChange.TheVariants.{Set, Push, Stay, LookAhead, Retitle}
use Rattle.tb_core.specs.declared.judged.CommandFailure.{CommandFailure}
use Rattle.tb_core.specs.declared.refusal.Refusal.{Refusal}
use Rattle.tb_core.specs.Refusals.{Fails}

-- the board after the change
abbrev pub after : Board → BoardChange → Board
after b (Set place t) = record b { tasks = slice_set b.tasks place t }
after b (Push t) = with_task b t
after b Stay = b
after b (LookAhead ahead) = with_ahead ahead b
after b (Retitle title) = with_title title b

-- a task that is changed stands on the board
abbrev pub Fits : Board → BoardChange → Type 0
Fits b (Set place t) = place < length b.tasks
Fits b (Push t) = Unit {0}
Fits b Stay = Unit {0}
Fits b (LookAhead ahead) = Unit {0}
Fits b (Retitle title) = Unit {0}

-- the changes by which it comes about
abbrev pub changes_by : Board → BoardChange → List Change
changes_by b (Set place t) = PutTask b.number place t ∷ []
changes_by b (Push t) = PutTask b.number (length b.tasks) t ∷ []
changes_by b Stay = []
changes_by b (LookAhead ahead) = SetAhead b.number ahead ∷ []
changes_by b (Retitle title) = SetTitle b.number title ∷ []

-- what a command makes of a board is what is expected
abbrev pub GivesEffect : Board → Result Effect CommandFailure → Result (Board × AnswerDetail) Refusal → Type 0
GivesEffect b (Ok e) expected = expected ≡ Ok (after b e.change, e.detail)
GivesEffect b (Err failure) expected = Fails failure expected

-- an effect is what is expected, and else the command is the import
abbrev pub GivesPlan : Board → BoardCommand → Result Plan CommandFailure
    → Result (Board × AnswerDetail) Refusal → Type 0
GivesPlan b c (Ok (plan.Effect e)) expected = expected ≡ Ok (after b e.change, e.detail)
GivesPlan b c (Ok (plan.Import tasks)) expected = c ≡ Import tasks.now
GivesPlan b c (Err failure) expected = Fails failure expected

abbrev pub PlanFits : Board → Plan → Type 0
PlanFits b (plan.Effect e) = Fits b e.change
PlanFits b (plan.Import tasks) = Unit {0}

abbrev pub planned : Result Effect CommandFailure → Result Plan CommandFailure
planned (Ok e) = Ok (plan.Effect e)
planned (Err failure) = Err failure

-- the task neither wakes at m nor recurs
pub record IsStill (m : ℕ) (t : Task) : Type 0 where
  pub sleeps : wakes m t ≡ false
  pub plain : is_recurring t.status ≡ false

-- the change leaves a quiet board quiet
abbrev pub KeepsQuiet : ℕ → Board → BoardChange → Type 0
KeepsQuiet m b s = IsQuiet m b → IsQuiet m (after b s)
