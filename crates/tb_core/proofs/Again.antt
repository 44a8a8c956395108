-- An import of lines right after itself finds each of its tasks.
use Rattle.std.proofs.Common.{◌≡◌, ◌≤◌, ℕ, ◌+◌, ◌-◌, ◌==◌, ◌||◌, Bool, true, false, List, [], ◌∷◌, ◌++◌, Option, Some, None, Result, Ok, Err, length, find, nat_lt, refl, sym, ◌∙◌, ap, arith, subst, inl, inr, append_assoc, length-append, true≢false}
use Rattle.std.specs.List.{AllByRecursion, list_any}
use Rattle.std.specs.Cmp.{nat_eq_equiv}
use Rattle.std.proofs.lemmas.Bool.{cases_Bool, eq-eqb, le-ltb, ltb-false}
use Rattle.std.proofs.lemmas.List.{append-nil}
use Rattle.std.proofs.lemmas.List.Folds.{list_any-append}
use Rattle.tb_task.specs.declared.task.Task.{Task}
use Rattle.tb_board.specs.declared.board.Board.{Board}
use Rattle.tb_board.specs.declared.world.Role.{Role}
use Rattle.tb_board.specs.declared.world.World.{World}
use Rattle.tb_board.specs.Board.{wake}
use Rattle.tb_board.specs.Tasks.{has_id}
use Rattle.tb_board.specs.Changing.{change_board}
use Rattle.tb_board.specs.World.{find_board, has_number, may_change, number_of, role_of}
use Rattle.tb_board.proofs.Goodness.{ids-wake, on-same}
use Rattle.tb_board.proofs.Worlds.{number_found}
use Rattle.tb_sweep.specs.Sweeping.{more, sweep}
use Rattle.tb_sweep.proofs.Adding.{number-sweep}
use Rattle.tb_sweep.proofs.Settled.{adds_last, sweep_ends, sweep_fits, wake_swept}
use Rattle.tb_core.specs.declared.command.Answer.{Answer}
use Rattle.tb_core.specs.declared.command.Answer.TheVariants.{OnBoard, OfPerson, NewBoard}
use Rattle.tb_core.specs.declared.command.BoardAnswer.{BoardAnswer}
use Rattle.tb_core.specs.declared.command.BoardCommand.TheVariants.{Import}
use Rattle.tb_core.specs.declared.command.Import.TheVariants.{Todo}
use Rattle.tb_core.specs.declared.command.AnswerDetail.{AnswerDetail}
use Rattle.tb_core.specs.declared.command.AnswerDetail.TheVariants.{TodoImported}
use Rattle.tb_core.specs.declared.refusal.Refusal.{Refusal}
use Rattle.tb_core.specs.declared.refusal.Refusal.TheVariants.{Full}
use Rattle.tb_core.specs.Apply.{answered, applied, apply, board_answer, board_for, decided, if_allowed, outcome, seen_with}
use Rattle.tb_core.specs.ImportAgain.{known_answer, todo_import, ImportTodoAgain}
use Rattle.tb_core.specs.ImportTodo.{first_bad, imported, judged_import_todo, new_beside, new_tasks}
use Rattle.tb_core.specs.Refusals.{least, unless_refused, where_holds}

-- one of the tasks has its identifier
abbrev IsThere : List Task → Task → Type 0
IsThere us t = list_any (has_id t.id) us ≡ true

or_left : (p q : Bool) → p ≡ true → (p || q) ≡ true
or_left true q h = refl
or_left false q h = absurd (true≢false (sym h))

or_right : (p q : Bool) → q ≡ true → (p || q) ≡ true
or_right true q h = refl
or_right false q h = h

there_more : (us more : List Task) (t : Task) → IsThere us t → IsThere (us ++ more) t
there_more us more t h = list_any-append (has_id t.id) us more ∙ or_left (list_any (has_id t.id) us) (list_any (has_id t.id) more) h

there_own : (us more : List Task) (t : Task) → IsThere (us ++ t ∷ more) t
there_own us more t =
    list_any-append (has_id t.id) us (t ∷ more)
    ∙ or_right (list_any (has_id t.id) us) (list_any (has_id t.id) (t ∷ more)) (or_left (t.id == t.id) (list_any (has_id t.id) more) (nat_eq_equiv.refl t.id))

all_there : (before ts : List Task) → AllByRecursion (IsThere (before ++ new_beside before ts)) ts
all_there before [] = tt
all_there before (t ∷ ts) =
    elim (cases_Bool (list_any (has_id t.id) before)) [
      | inl known ↦
          let same : new_beside before (t ∷ ts) ≡ new_beside before ts = rw known refl in
          subst (λ us. AllByRecursion (IsThere (before ++ us)) (t ∷ ts)) (sym same) (there_more before (new_beside before ts) t known, all_there before ts)
      | inr fresh ↦
          let later = new_beside (before ++ t ∷ []) ts in
          let rest = subst (λ us. AllByRecursion (IsThere us) ts) (append_assoc before (t ∷ []) later) (all_there (before ++ t ∷ []) ts) in
          let more : new_beside before (t ∷ ts) ≡ t ∷ later = rw fresh refl in
          subst (λ us. AllByRecursion (IsThere (before ++ us)) (t ∷ ts)) (sym more) (there_own before later t, rest)
    ]

none_new : (us ts : List Task) → AllByRecursion (IsThere us) ts → new_beside us ts ≡ []
none_new us [] h = refl
none_new us (t ∷ ts) h = rw h.0 (none_new us ts h.1)

there_swept : (b : Board) (m : ℕ) (ts : List Task) → AllByRecursion (IsThere b.tasks) ts → AllByRecursion (IsThere (sweep b m).tasks) ts
there_swept b m [] h = tt
there_swept b m (t ∷ ts) h =
    let last = adds_last b m in
    let awake : IsThere (wake b m).tasks t = on-same b (wake b m) t.id (ids-wake m b.tasks) ∙ h.0 in
    (subst (λ us. IsThere us t) (sym last.1) (there_more (wake b m).tasks last.0 t awake), there_swept b m ts h.1)

-- what an import that is accepted says of its tasks, and of the board
record IsImported (b : Board) (ts : List Task) (m : ℕ) (y : Board) (a : BoardAnswer) : Type 0 where
  good : first_bad 0 ts ≡ None
  room : length b.tasks + length (new_tasks b ts) ≤ 10000
  board : sweep (imported b ts) m ≡ y
  number : y.number ≡ a.board
  more_left : more y m ≡ a.more

abbrev board_in : Board → Result (Board × BoardAnswer) Refusal → Board
board_in b (Ok r) = r.0
board_in b (Err refusal) = b

abbrev answer_in : BoardAnswer → Result (Board × BoardAnswer) Refusal → BoardAnswer
answer_in a (Ok r) = r.1
answer_in a (Err refusal) = a

record IsTaken (o : Option Refusal) (full : Bool) (v : Board) (detail : AnswerDetail) (m : ℕ) (y : Board) (a : BoardAnswer) : Type 0 where
  good : o ≡ None
  room : full ≡ false
  board : sweep v m ≡ y
  answer : board_answer v m detail ≡ a

taken : (o : Option Refusal) (full : Bool) (v : Board) (detail : AnswerDetail) (m : ℕ) (y : Board) (a : BoardAnswer)
    → answered m (unless_refused (least (o ∷ where_holds Full full ∷ [])) v detail) ≡ Ok (y, a) → IsTaken o full v detail m y a
taken (Some r) full v detail m y a h = absurd (cc)
taken None true v detail m y a h = absurd (cc)
taken None false v detail m y a h = record { good = refl; room = refl; board = ap (board_in y) h; answer = ap (answer_in a) h }

accepted : (b : Board) (ts : List Task) (m : ℕ) (y : Board) (a : BoardAnswer) → answered m (judged_import_todo b ts) ≡ Ok (y, a) → IsImported b ts m y a
accepted b ts m y a h =
    let size = length b.tasks + length (new_tasks b ts) in
    let is = taken (first_bad 0 ts) (nat_lt 10000 size) (imported b ts) (TodoImported (length ts - length (new_tasks b ts)) (length (new_tasks b ts))) m y a h in
    record {
      good = is.good;
      room = ltb-false 10000 size is.room;
      board = is.board;
      number = ap (λ (c : Board). c.number) (sym is.board) ∙ number-sweep (imported b ts) m ∙ ap (λ (c : BoardAnswer). c.board) is.answer;
      more_left = ap (λ (c : Board). more c m) (sym is.board) ∙ ap (λ (c : BoardAnswer). c.more) is.answer;
    }

judged_again : (y : Board) (ts : List Task) → first_bad 0 ts ≡ None → new_tasks y ts ≡ [] → length y.tasks ≤ 10000
    → judged_import_todo y ts ≡ Ok (y, TodoImported (length ts) 0)
judged_again y ts good none fits =
    let room : nat_lt 10000 (length y.tasks + 0) ≡ false = le-ltb 10000 (length y.tasks + 0) (omega (arith, fits)) in
    let all : length ts - 0 ≡ length ts = omega arith in
    rw (good, none, room, append-nil y.tasks, all) refl

answered_again : (y : Board) (ts : List Task) (m : ℕ) → sweep y m ≡ y → more y m ≡ false
    → answered m (Ok (y, TodoImported (length ts) 0)) ≡ Ok (y, known_answer y.number ts)
answered_again y ts m same none =
    let added : length y.tasks - length y.tasks ≡ 0 = omega arith in
    rw (same, none, added) refl

-- the same import on the board that it made
outcome_again : (x : Board) (ts : List Task) (m : ℕ) (y : Board) (a : BoardAnswer) → outcome x (Import (Todo ts)) m ≡ Ok (y, a) → a.more ≡ false
    → outcome y (Import (Todo ts)) m ≡ Ok (y, known_answer a.board ts)
outcome_again x ts m y a h enough =
    let b = wake x m in
    let is = accepted b ts m y a h in
    let v = imported b ts in
    let none : more (sweep v m) m ≡ false = ap (λ (c : Board). more c m) is.board ∙ is.more_left ∙ enough in
    let awake : wake y m ≡ y = subst (λ (c : Board). wake c m ≡ c) is.board (wake_swept v m) in
    let same : sweep y m ≡ y = subst (λ (c : Board). sweep c m ≡ c) is.board (sweep_ends v m none) in
    let there = subst (λ (c : Board). AllByRecursion (IsThere c.tasks) ts) is.board (there_swept v m ts (all_there b.tasks ts)) in
    let fits = subst (λ (c : Board). length c.tasks ≤ 10000) is.board (sweep_fits v m (omega (arith, is.room, length-append b.tasks (new_tasks b ts)))) in
    ap (λ (c : Board). answered m (judged_import_todo c ts)) awake
    ∙ ap (answered m) (judged_again y ts is.good (none_new y.tasks ts there) fits)
    ∙ answered_again y ts m same (is.more_left ∙ enough)
    ∙ ap (λ k. Ok (y, known_answer k ts)) is.number

number_kept : (x : Board) (ts : List Task) (m : ℕ) (y : Board) (a : BoardAnswer) → outcome x (Import (Todo ts)) m ≡ Ok (y, a) → y.number ≡ x.number
number_kept x ts m y a h =
    let is = accepted (wake x m) ts m y a h in
    ap (λ (c : Board). c.number) (sym is.board) ∙ number-sweep (imported (wake x m) ts) m

-- a board that was put is found, and put again it changes nothing
found_put : (n : ℕ) (y : Board) (bs : List Board) (x : Board) → y.number ≡ n → find (has_number n) bs ≡ Some x → find (has_number n) (change_board n (λ _. y) bs) ≡ Some y
found_put n y [] x is h = absurd (cc)
found_put n y (b ∷ bs) x is h =
    elim (cases_Bool (has_number n b)) [
      | inl here ↦ let own : has_number n y ≡ true = eq-eqb y.number n is in rw (here, own) refl
      | inr other ↦ let later : find (has_number n) bs ≡ Some x = rw other at h in rw (other, other) (found_put n y bs x is later)
    ]

put_twice : (n : ℕ) (y : Board) (bs : List Board) → y.number ≡ n → change_board n (λ _. y) (change_board n (λ _. y) bs) ≡ change_board n (λ _. y) bs
put_twice n y [] is = refl
put_twice n y (b ∷ bs) is =
    elim (cases_Bool (has_number n b)) [
      | inl here ↦ let own : has_number n y ≡ true = eq-eqb y.number n is in rw (here, own) refl
      | inr other ↦ rw (other, other) (ap (λ cs. b ∷ cs) (put_twice n y bs is))
    ]

abbrev answer_on : BoardAnswer → Result Answer Refusal → BoardAnswer
answer_on a (Ok (OnBoard b)) = b
answer_on a (Ok (OfPerson name)) = a
answer_on a (Ok (NewBoard n)) = a
answer_on a (Err refusal) = a

abbrev IsKnownAgain : World → List ℕ → ℕ → List Task → ℕ → BoardAnswer → World → Type 0
IsKnownAgain w name n ts m a later = apply later name (todo_import n ts) m ≡ record { world = later; answer = Ok (OnBoard (known_answer a.board ts)) }

again_at : (w : World) (name : List ℕ) (n : ℕ) (ts : List Task) (m : ℕ) (a : BoardAnswer) (caller : ℕ) (role : Role) (x y : Board)
    → number_of w name ≡ Some caller → role_of w n caller ≡ Some role → find_board w n ≡ Some x → may_change role ≡ true → outcome x (Import (Todo ts)) m ≡ Ok (y, a) → a.more ≡ false
    → IsKnownAgain w name n ts m a (record w { boards = change_board y.number (λ _. y) w.boards })
again_at w name n ts m a caller role x y known own found allowed gives enough =
    let later : World = record w { boards = change_board y.number (λ _. y) w.boards } in
    let c = Import (Todo ts) in
    let number : y.number ≡ n = number_kept x ts m y a gives ∙ number_found n w.boards x found in
    let there : find_board later n ≡ Some y =
    subst (λ k. find (has_number n) (change_board k (λ _. y) w.boards) ≡ Some y) (sym number) (found_put n y w.boards x number found) in
    ap (λ k. applied later (decided k (board_for later k (Some n)) c m)) known
    ∙ ap (λ r. applied later (decided (Some caller) (seen_with r (find_board later n)) c m)) own
    ∙ ap (λ o. applied later (decided (Some caller) (seen_with (Some role) o) c m)) there
    ∙ ap (λ q. applied later (if_allowed q (outcome y c m))) allowed
    ∙ ap (applied later) (outcome_again x ts m y a gives enough)
    ∙ ap (λ bs. record { world = record later { boards = bs }; answer = Ok (OnBoard (known_answer a.board ts)) }) (put_twice y.number y w.boards refl)

again_outcome : (w : World) (name : List ℕ) (n : ℕ) (ts : List Task) (m : ℕ) (a : BoardAnswer) (caller : ℕ) (role : Role) (x : Board) (r : Result (Board × BoardAnswer) Refusal)
    → number_of w name ≡ Some caller → role_of w n caller ≡ Some role → find_board w n ≡ Some x → may_change role ≡ true → outcome x (Import (Todo ts)) m ≡ r
    → (applied w r).answer ≡ Ok (OnBoard a) → a.more ≡ false → IsKnownAgain w name n ts m a (applied w r).world
again_outcome w name n ts m a caller role x (Err refusal) known own found allowed gives h enough = absurd (cc)
again_outcome w name n ts m a caller role x (Ok r) known own found allowed gives h enough =
    let is : r.1 ≡ a = ap (answer_on a) h in
    again_at w name n ts m a caller role x r.0 known own found allowed (gives ∙ ap (λ b. Ok (r.0, b)) is) enough

again_allowed : (w : World) (name : List ℕ) (n : ℕ) (ts : List Task) (m : ℕ) (a : BoardAnswer) (caller : ℕ) (role : Role) (x : Board) (allowed : Bool)
    → number_of w name ≡ Some caller → role_of w n caller ≡ Some role → find_board w n ≡ Some x → may_change role ≡ allowed
    → (applied w (if_allowed allowed (outcome x (Import (Todo ts)) m))).answer ≡ Ok (OnBoard a) → a.more ≡ false
    → IsKnownAgain w name n ts m a (applied w (if_allowed allowed (outcome x (Import (Todo ts)) m))).world
again_allowed w name n ts m a caller role x true known own found allowed h enough =
    again_outcome w name n ts m a caller role x (outcome x (Import (Todo ts)) m) known own found allowed refl h enough
again_allowed w name n ts m a caller role x false known own found refused h enough = absurd (cc)

again_seen : (w : World) (name : List ℕ) (n : ℕ) (ts : List Task) (m : ℕ) (a : BoardAnswer) (caller : ℕ) (role : Option Role) (o : Option Board)
    → number_of w name ≡ Some caller → role_of w n caller ≡ role → find_board w n ≡ o
    → (applied w (decided (Some caller) (seen_with role o) (Import (Todo ts)) m)).answer ≡ Ok (OnBoard a) → a.more ≡ false
    → IsKnownAgain w name n ts m a (applied w (decided (Some caller) (seen_with role o) (Import (Todo ts)) m)).world
again_seen w name n ts m a caller None o known own found h enough = absurd (cc)
again_seen w name n ts m a caller (Some role) None known own found h enough = absurd (cc)
again_seen w name n ts m a caller (Some role) (Some x) known own found h enough =
    again_allowed w name n ts m a caller role x (may_change role) known own found refl h enough

again_by : (w : World) (name : List ℕ) (n : ℕ) (ts : List Task) (m : ℕ) (a : BoardAnswer) (caller : Option ℕ) → number_of w name ≡ caller
    → (applied w (decided caller (board_for w caller (Some n)) (Import (Todo ts)) m)).answer ≡ Ok (OnBoard a) → a.more ≡ false
    → IsKnownAgain w name n ts m a (applied w (decided caller (board_for w caller (Some n)) (Import (Todo ts)) m)).world
again_by w name n ts m a None known h enough = absurd (cc)
again_by w name n ts m a (Some caller) known h enough =
    again_seen w name n ts m a caller (role_of w n caller) (find_board w n) known refl refl h enough

pub todo_again : ImportTodoAgain
todo_again w name n ts m a h enough = again_by w name n ts m a (number_of w name) refl h enough
