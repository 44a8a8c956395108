-- A task that a board doesn't take is refused whether or not the board is awake.
use Rattle.std.proofs.Common.{◌≡◌, ℕ, Option, Some, None, refl, sym, ◌∙◌, ap, subst, MatchOption}
use Rattle.std.proofs.lemmas.List.{length-map}
use Rattle.tb_board.specs.declared.board.Board.{Board}
use Rattle.tb_board.specs.Board.{wake}
use Rattle.tb_board.specs.Tasks.{woken}
use Rattle.tb_board.proofs.Goodness.{ids-wake, lacks-same, on-same}
use Rattle.tb_core.specs.declared.command.BoardCommand.{BoardCommand}
use Rattle.tb_core.specs.declared.command.BoardCommand.TheVariants.{Add}
use Rattle.tb_core.specs.declared.refusal.Refusal.{Refusal}
use Rattle.tb_core.specs.Add.{add_refusals}
use Rattle.tb_core.specs.Deciding.{IsRefused, TakesAdded}
use Rattle.tb_core.specs.Refusals.{least}
use Rattle.tb_task.specs.declared.incoming.Incoming.{Incoming}

refused_awake : (b : Board) (m : ℕ) (i : Incoming) → least (add_refusals (wake b m) i) ≡ least (add_refusals b i)
refused_awake b m i =
    let same = ids-wake m b.tasks in
    rw (lacks-same b (wake b m) i.task.depends same, on-same b (wake b m) i.task.id same, length-map b.tasks (woken m)) refl

pub takes_awake : (b : Board) (m : ℕ) (c : BoardCommand) → TakesAdded b c → TakesAdded (wake b m) c
takes_awake b m c takes = λ i is. refused_awake b m i ∙ takes i is

abbrev taken_in : BoardCommand → Incoming → Incoming
taken_in (Add i) other = i
taken_in c other = other

pub refuses : (b : Board) (c : BoardCommand) (i : Incoming) (o : Option Refusal) → c ≡ Add i → o ≡ least (add_refusals b i)
    → MatchOption o (TakesAdded b c) (IsRefused b c)
refuses b c i None is h = λ j also. subst (λ l. least (add_refusals b l) ≡ None) (ap (λ d. taken_in d i) (sym is ∙ also)) (sym h)
refuses b c i (Some refusal) is h = λ m. rw (is, refused_awake b m i, ← h) refl
