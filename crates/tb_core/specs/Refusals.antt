-- How refusals are chosen, and what a step that can fail gives.
use Rattle.std.specs.Prelude.{◌≡◌, Bool, if◌then◌else◌, List, [], ◌∷◌, Option, Some, None, Result, Ok, Err}
use Rattle.tb_task.specs.declared.checks.Field.{Field}
use Rattle.tb_board.specs.declared.board.Board.{Board}
use Rattle.tb_core.specs.declared.command.AnswerDetail.{AnswerDetail}
use Rattle.tb_core.specs.declared.judged.Judged.{Judged}
use Rattle.tb_core.specs.declared.judged.CommandFailure.{CommandFailure}
use Rattle.tb_core.specs.declared.judged.CommandFailure.TheVariants.{Memory, Refused}
use Rattle.tb_core.specs.declared.refusal.Refusal.{Refusal}
use Rattle.tb_core.specs.declared.refusal.Refusal.TheVariants.{BadTask}

-- a refusal where it holds
abbrev pub where_holds : Refusal → Bool → Option Refusal
where_holds r holds = if holds then Some r else None

abbrev pub bad_task : Option Field → Option Refusal
bad_task None = None
bad_task (Some fault) = Some (BadTask fault)

-- the first that holds: a command's refusals stand in order of their numbers
-- Rule: of several refusals the one with the least number is answered. Tried by full_board.
abbrev pub least : List (Option Refusal) → Option Refusal
least [] = None
least (None ∷ rs) = least rs
least (Some r ∷ rs) = Some r

abbrev pub unless_refused : Option Refusal → Board → AnswerDetail
    → Result (Board × AnswerDetail) Refusal
unless_refused None b detail = Ok (b, detail)
unless_refused (Some r) b detail = Err r

-- a failure is the refusal that is expected, unless memory ran out
abbrev pub Fails : {Y : Type 0} → CommandFailure → Result Y Refusal → Type 0
Fails Memory expected = Unit {0}
Fails (Refused r) expected = expected ≡ Err r

-- what a command made of a draft is what is expected of its board
abbrev pub Gives : Result Judged CommandFailure → Result (Board × AnswerDetail) Refusal → Type 0
Gives (Ok j) expected = expected ≡ Ok (j.draft.board, j.detail)
Gives (Err e) expected = Fails e expected
