-- On a board that is quiet before and after it, a command changes what it puts and nothing else.
use Rattle.std.proofs.Common.{◌≡◌, ℕ, Bool, true, false, Result, Ok, Err, IfErr, length, nat_lt, refl, sym, ap, ◌∙◌, subst, arith}
use Rattle.std.specs.List.{AllByRecursion}
use Rattle.std.proofs.lemmas.Bool.{lt-ltb, le-ltb}
use Rattle.tb_board.specs.declared.board.Board.{Board}
use Rattle.tb_board.specs.declared.draft.Draft.{Draft}
use Rattle.tb_board.specs.Changing.{IsDraft, IsOn, replayed}
use Rattle.tb_board.proofs.FirstWaits.{is_awake}
use Rattle.tb_sweep.specs.Quiet.{IsQuiet}
use Rattle.tb_sweep.specs.Sweeping.{added, more, sweep}
use Rattle.tb_sweep.proofs.QuietBoards.{added_quiet, more_quiet, sweep_quiet}
use Rattle.tb_core.specs.declared.command.BoardAnswer.{BoardAnswer}
use Rattle.tb_core.specs.declared.command.BoardCommand.{BoardCommand}
use Rattle.tb_core.specs.declared.command.AnswerDetail.{AnswerDetail}
use Rattle.tb_core.specs.declared.effect.BoardChange.{BoardChange}
use Rattle.tb_core.specs.declared.effect.BoardChange.TheVariants.{Set, Push, Stay, LookAhead, Retitle}
use Rattle.tb_core.specs.declared.judged.CommandFailure.{CommandFailure}
use Rattle.tb_core.specs.declared.judged.CommandFailure.TheVariants.{Memory, Refused}
use Rattle.tb_core.specs.declared.refusal.Refusal.{Refusal}
use Rattle.tb_core.specs.Apply.{answered, judged, outcome}
use Rattle.tb_core.specs.Deciding.{IsAccepted}
use Rattle.tb_core.specs.Effect.{after, Fits, changes_by}
use Rattle.tb_core.specs.Refusals.{Fails}

-- ---- the changes of a step make it

made_by : (b : Board) (s : BoardChange) → Fits b s → replayed b (changes_by b s) ≡ after b s
made_by b (Set place t) fits =
    let inside : nat_lt place (length b.tasks) ≡ true = lt-ltb place (length b.tasks) fits in
    rw inside refl
made_by b (Push t) fits =
    let beyond : nat_lt (length b.tasks) (length b.tasks) ≡ false = le-ltb (length b.tasks) (length b.tasks) (omega arith) in
    rw beyond refl
made_by b Stay fits = refl
made_by b (LookAhead ahead) fits = refl
made_by b (Retitle title) fits = refl

own : (b : Board) (s : BoardChange) → IsDraft b (record { board = replayed b (changes_by b s); changes = changes_by b s })
own b (Set place t) = record { own = (refl, tt); made = refl }
own b (Push t) = record { own = (refl, tt); made = refl }
own b Stay = record { own = tt; made = refl }
own b (LookAhead ahead) = record { own = (refl, tt); made = refl }
own b (Retitle title) = record { own = (refl, tt); made = refl }

same_number : (b : Board) (s : BoardChange) → (after b s).number ≡ b.number
same_number b (Set place t) = refl
same_number b (Push t) = refl
same_number b Stay = refl
same_number b (LookAhead ahead) = refl
same_number b (Retitle title) = refl

-- ---- what a command makes of a quiet board

abbrev answer_of : ℕ → ℕ → Bool → AnswerDetail → BoardAnswer
answer_of n k more detail = record { board = n; added = k; more = more; detail = detail }

abbrev told_of : Board → BoardAnswer → Result (Board × BoardAnswer) Refusal
told_of b a = Ok (b, a)

swept_quiet : (b : Board) (m : ℕ) (s : BoardChange) (detail : AnswerDetail) → IsQuiet m (after b s)
    → answered m (Ok (after b s, detail)) ≡ told_of (after b s) (answer_of b.number 0 false detail)
swept_quiet b m s detail quiet =
    let later = after b s in
    ap (λ x. told_of x (answer_of later.number (added later m) (more (sweep later m) m) detail)) (sweep_quiet later m quiet)
    ∙ ap (λ k. told_of later (answer_of later.number k (more (sweep later m) m) detail)) (added_quiet later m quiet)
    ∙ ap (λ q. told_of later (answer_of later.number 0 q detail)) (more_quiet later m quiet)
    ∙ ap (λ n. told_of later (answer_of n 0 false detail)) (same_number b s)

pub quiet_accepts : (b : Board) (c : BoardCommand) (m : ℕ) (s : BoardChange) (detail : AnswerDetail) → IsQuiet m b → IsQuiet m (after b s) → Fits b s
    → judged b c m ≡ Ok (after b s, detail)
    → IsAccepted b c m (record { changes = changes_by b s; answer = record { board = b.number; added = 0; more = false; detail = detail } })
quiet_accepts b c m s detail quiet later fits judges =
    record {
      made = own b s;
      gives = ap (λ x. answered m (judged x c m)) (is_awake b m quiet.awake) ∙ ap (answered m) judges ∙ swept_quiet b m s detail later
          ∙ ap (λ x. told_of x (answer_of b.number 0 false detail)) (sym (made_by b s fits));
    }

fails_answered : (m : ℕ) (failure : CommandFailure) (expected : Result (Board × AnswerDetail) Refusal) → Fails failure expected → Fails failure (answered m expected)
fails_answered m Memory expected h = tt
fails_answered m (Refused refusal) expected h = ap (answered m) h

quiet_refuses : (b : Board) (c : BoardCommand) (m : ℕ) (failure : CommandFailure) → IsQuiet m b → Fails failure (judged b c m) → Fails failure (outcome b c m)
quiet_refuses b c m failure quiet fails =
    subst (λ x. Fails failure (answered m (judged x c m))) (sym (is_awake b m quiet.awake)) (fails_answered m failure (judged b c m) fails)

pub refused_quiet : {X : Type 0} (b : Board) (c : BoardCommand) (m : ℕ) (r : Result X CommandFailure) → IsQuiet m b
    → IfErr r (λ failure. Fails failure (judged b c m)) → IfErr r (λ failure. Fails failure (outcome b c m))
refused_quiet b c m (Ok x) quiet fails = tt
refused_quiet b c m (Err failure) quiet fails = quiet_refuses b c m failure quiet fails

-- ---- the changes of a draft

pub draft_accepted : (b : Board) (c : BoardCommand) (m : ℕ) (d : Draft) (a : BoardAnswer) → outcome b c m ≡ Ok (d.board, a) → IsDraft b d
    → IsAccepted b c m (record { changes = d.changes; answer = a })
draft_accepted b c m d a gives made =
    record {
      made = record { own = subst (λ (x : Board). AllByRecursion (IsOn x.number) d.changes) (sym made.made) made.own; made = refl };
      gives = gives ∙ ap (λ x. told_of x a) (sym made.made);
    }
