-- An import of the task format right after itself finds each of its tasks.
use Rattle.std.proofs.Common.{◌≡◌, ℕ, ◌-◌, ◌||◌, not, Bool, true, false, List, [], ◌∷◌, ◌++◌, Option, Some, None, Result, Ok, Err, length, find, refl, sym, ◌∙◌, ap, arith, subst, inl, inr, true≢false}
use Rattle.std.specs.List.{list_any}
use Rattle.std.proofs.lemmas.Bool.{cases_Bool, eq-eqb, le-ltb}
use Rattle.std.proofs.lemmas.List.Folds.{list_any-append}
use Rattle.tb_task.specs.declared.incoming.Incoming.{Incoming}
use Rattle.tb_graph.proofs.Leading.{is_acyclic_decides}
use Rattle.tb_board.specs.declared.board.Board.{Board}
use Rattle.tb_board.specs.declared.world.Role.{Role}
use Rattle.tb_board.specs.declared.world.World.{World}
use Rattle.tb_board.specs.Board.{is_on, wake}
use Rattle.tb_board.specs.Tasks.{has_id}
use Rattle.tb_board.specs.Changing.{change_board}
use Rattle.tb_board.specs.Good.{IsGood}
use Rattle.tb_board.specs.Links.{links}
use Rattle.tb_board.specs.World.{find_board, has_number, may_change, number_of, role_of}
use Rattle.tb_board.proofs.Goodness.{ids-wake, on-same}
use Rattle.tb_board.proofs.Worlds.{number_found}
use Rattle.tb_sweep.specs.Sweeping.{more, sweep}
use Rattle.tb_sweep.proofs.Adding.{number-sweep}
use Rattle.tb_sweep.proofs.Settled.{adds_last, sweep_ends, wake_swept}
use Rattle.tb_import.specs.declared.imported.ImportCounts.{ImportCounts}
use Rattle.tb_import.specs.declared.refusal.ImportRefusal.{ImportRefusal}
use Rattle.tb_import.proofs.Known.{AreKnown}
use Rattle.tb_import.specs.Import.{board_after, counts_after, with_masks}
use Rattle.tb_import.specs.News.{new_tasks}
use Rattle.tb_import.specs.Refusal.{bad_task, import_refusals, is_cyclic, is_too_full, least, unless_refused}
use Rattle.tb_import.proofs.Again.{counts_again, known_after, same_after}
use Rattle.tb_import.proofs.Templates.{shape}
use Rattle.tb_core.specs.declared.command.Answer.{Answer}
use Rattle.tb_core.specs.declared.command.Answer.TheVariants.{OnBoard, OfPerson, NewBoard}
use Rattle.tb_core.specs.declared.command.BoardAnswer.{BoardAnswer}
use Rattle.tb_core.specs.declared.command.BoardCommand.TheVariants.{Import}
use Rattle.tb_core.specs.declared.command.Import.TheVariants.{Json}
use Rattle.tb_core.specs.declared.command.AnswerDetail.TheVariants.{Imported}
use Rattle.tb_core.specs.declared.refusal.Refusal.{Refusal}
use Rattle.tb_core.specs.Apply.{answered, applied, apply, board_answer, board_for, decided, if_allowed, outcome, seen_with}
use Rattle.tb_core.specs.GoodWorld.{IsGoodWorld}
use Rattle.tb_core.specs.ImportJson.{judged_import_json, told_of}
use Rattle.tb_core.proofs.GoodWorlds.{all-found}
use Rattle.tb_core.proofs.Stays.{stays_good}
use Rattle.tb_headline.specs.ImportAgain.{json_import, known_answer, ImportJsonAgain}

abbrev known_counts : List Incoming → ImportCounts
known_counts is = record { known = length is; new = 0; dropped = 0; orphans = 0; unlinked = 0 }

or_left : (p q : Bool) → p ≡ true → (p || q) ≡ true
or_left true q h = refl
or_left false q h = absurd (true≢false (sym h))

known_swept : (b : Board) (m : ℕ) (is : List Incoming) → AreKnown b is → AreKnown (sweep b m) is
known_swept b m [] h = tt
known_swept b m (i ∷ is) h =
    let last = adds_last b m in
    let id = i.task.id in
    let awake : is_on (wake b m) id ≡ true = on-same b (wake b m) id (ids-wake m b.tasks) ∙ h.0 in
    let there : list_any (has_id id) ((wake b m).tasks ++ last.0) ≡ true =
    list_any-append (has_id id) (wake b m).tasks last.0 ∙ or_left (list_any (has_id id) (wake b m).tasks) (list_any (has_id id) last.0) awake in
    (subst (λ us. list_any (has_id id) us ≡ true) (sym last.1) there, known_swept b m is h.1)

first_none : (o : Option ImportRefusal) (os : List (Option ImportRefusal)) → least (o ∷ os) ≡ None → o ≡ None
first_none None os h = refl
first_none (Some r) os h = absurd (cc)

-- what an import that is accepted says of its tasks, and of the board
record IsTaken (o : Option ImportRefusal) (v : Board) (m : ℕ) (y : Board) (a : BoardAnswer) : Type 0 where
  unrefused : o ≡ None
  board : sweep v m ≡ y
  number : y.number ≡ a.board
  more_left : more y m ≡ a.more

abbrev board_in : Board → Result (Board × BoardAnswer) Refusal → Board
board_in b (Ok r) = r.0
board_in b (Err refusal) = b

abbrev answer_in : BoardAnswer → Result (Board × BoardAnswer) Refusal → BoardAnswer
answer_in a (Ok r) = r.1
answer_in a (Err refusal) = a

taken : (o : Option ImportRefusal) (v : Board) (counts : ImportCounts) (m : ℕ) (y : Board) (a : BoardAnswer)
    → answered m (told_of (unless_refused o v counts)) ≡ Ok (y, a) → IsTaken o v m y a
taken (Some r) v counts m y a h = absurd (cc)
taken None v counts m y a h =
    let board : sweep v m ≡ y = ap (board_in y) h in
    let answer : board_answer v m (Imported counts) ≡ a = ap (answer_in a) h in
    record {
      unrefused = refl;
      board = board;
      number = ap (λ (c : Board). c.number) (sym board) ∙ number-sweep v m ∙ ap (λ (c : BoardAnswer). c.board) answer;
      more_left = ap (λ (c : Board). more c m) (sym board) ∙ ap (λ (c : BoardAnswer). c.more) answer;
    }

judged_again : (y : Board) (is : List Incoming) → bad_task 0 is ≡ None → AreKnown y is → IsGood y
    → judged_import_json y is ≡ Ok (y, Imported (known_counts is))
judged_again y is fine known good =
    let same = same_after y is known in
    let acyclic : is_cyclic (board_after y is) ≡ false = ap is_cyclic same ∙ ap not ((is_acyclic_decides (links y)).1 good.acyclic) in
    let room : is_too_full (board_after y is) ≡ false = ap is_too_full same ∙ le-ltb 10000 (length y.tasks) good.few in
    let none : least (import_refusals y is) ≡ None = rw (fine, acyclic, room) refl in
    ap (λ o. told_of (unless_refused o (board_after y is) (counts_after y is))) none
    ∙ ap (λ d. Ok (d, Imported (counts_after y is))) same
    ∙ ap (λ c. Ok (y, Imported c)) (counts_again y is known)

answered_again : (y : Board) (is : List Incoming) (m : ℕ) → sweep y m ≡ y → more y m ≡ false
    → answered m (Ok (y, Imported (known_counts is))) ≡ Ok (y, known_answer y.number is)
answered_again y is m same none =
    let added : length y.tasks - length y.tasks ≡ 0 = omega arith in
    rw (same, none, added) refl

-- the same import on the board that it made
outcome_again : (x : Board) (is : List Incoming) (m : ℕ) (y : Board) (a : BoardAnswer) → IsGood y
    → outcome x (Import (Json is)) m ≡ Ok (y, a) → a.more ≡ false → outcome y (Import (Json is)) m ≡ Ok (y, known_answer a.board is)
outcome_again x is m y a good h enough =
    let b = wake x m in
    let v = board_after b is in
    let told = taken (least (import_refusals b is)) v (counts_after b is) m y a h in
    let none : more (sweep v m) m ≡ false = ap (λ (c : Board). more c m) told.board ∙ told.more_left ∙ enough in
    let awake : wake y m ≡ y = subst (λ (c : Board). wake c m ≡ c) told.board (wake_swept v m) in
    let same : sweep y m ≡ y = subst (λ (c : Board). sweep c m ≡ c) told.board (sweep_ends v m none) in
    let known : AreKnown y is = subst (λ (c : Board). AreKnown c is) told.board (known_swept v m is (known_after b is)) in
    let fine = first_none (bad_task 0 is) _ told.unrefused in
    ap (λ (c : Board). answered m (judged_import_json c is)) awake
    ∙ ap (answered m) (judged_again y is fine known good)
    ∙ answered_again y is m same (told.more_left ∙ enough)
    ∙ ap (λ k. Ok (y, known_answer k is)) told.number

number_kept : (x : Board) (is : List Incoming) (m : ℕ) (y : Board) (a : BoardAnswer) → outcome x (Import (Json is)) m ≡ Ok (y, a) → y.number ≡ x.number
number_kept x is m y a h =
    let b = wake x m in
    let told = taken (least (import_refusals b is)) (board_after b is) (counts_after b is) m y a h in
    let new = new_tasks b is in
    ap (λ (c : Board). c.number) (sym told.board) ∙ number-sweep (board_after b is) m ∙ ap (λ (c : Board). c.number) (shape b new (with_masks b new) new)

-- ---- the world

-- a board that was put is found, and put again it changes nothing
found_put : (n : ℕ) (y : Board) (bs : List Board) (x : Board) → y.number ≡ n → find (has_number n) bs ≡ Some x → find (has_number n) (change_board n (λ _. y) bs) ≡ Some y
found_put n y [] x is h = absurd (cc)
found_put n y (b ∷ bs) x is h =
    elim (cases_Bool (has_number n b)) [
      | inl here ↦ let own : has_number n y ≡ true = eq-eqb y.number n is in rw (here, own) refl
      | inr other ↦ let later : find (has_number n) bs ≡ Some x = rw other at h in rw (other, other) (found_put n y bs x is later)
    ]

put_twice : (n : ℕ) (y : Board) (bs : List Board) → y.number ≡ n → change_board n (λ _. y) (change_board n (λ _. y) bs) ≡ change_board n (λ _. y) bs
put_twice n y [] is = refl
put_twice n y (b ∷ bs) is =
    elim (cases_Bool (has_number n b)) [
      | inl here ↦ let own : has_number n y ≡ true = eq-eqb y.number n is in rw (here, own) refl
      | inr other ↦ rw (other, other) (ap (λ cs. b ∷ cs) (put_twice n y bs is))
    ]

abbrev answer_on : BoardAnswer → Result Answer Refusal → BoardAnswer
answer_on a (Ok (OnBoard b)) = b
answer_on a (Ok (OfPerson name)) = a
answer_on a (Ok (NewBoard n)) = a
answer_on a (Err refusal) = a

abbrev IsKnownAgain : List ℕ → ℕ → List Incoming → ℕ → BoardAnswer → World → Type 0
IsKnownAgain name n is m a later = apply later name (json_import n is) m ≡ record { world = later; answer = Ok (OnBoard (known_answer a.board is)) }

again_at : (w : World) (name : List ℕ) (n : ℕ) (is : List Incoming) (m : ℕ) (a : BoardAnswer) (caller : ℕ) (role : Role) (x y : Board)
    → IsGoodWorld (record w { boards = change_board y.number (λ _. y) w.boards })
    → number_of w name ≡ Some caller → role_of w n caller ≡ Some role → find_board w n ≡ Some x → may_change role ≡ true
    → outcome x (Import (Json is)) m ≡ Ok (y, a) → a.more ≡ false
    → IsKnownAgain name n is m a (record w { boards = change_board y.number (λ _. y) w.boards })
again_at w name n is m a caller role x y good known own found allowed gives enough =
    let later : World = record w { boards = change_board y.number (λ _. y) w.boards } in
    let c = Import (Json is) in
    let number : y.number ≡ n = number_kept x is m y a gives ∙ number_found n w.boards x found in
    let there : find_board later n ≡ Some y =
    subst (λ k. find (has_number n) (change_board k (λ _. y) w.boards) ≡ Some y) (sym number) (found_put n y w.boards x number found) in
    let good_board = all-found IsGood (has_number n) later.boards y good.good there in
    ap (λ k. applied later (decided k (board_for later k (Some n)) c m)) known
    ∙ ap (λ r. applied later (decided (Some caller) (seen_with r (find_board later n)) c m)) own
    ∙ ap (λ o. applied later (decided (Some caller) (seen_with (Some role) o) c m)) there
    ∙ ap (λ q. applied later (if_allowed q (outcome y c m))) allowed
    ∙ ap (applied later) (outcome_again x is m y a good_board gives enough)
    ∙ ap (λ bs. record { world = record later { boards = bs }; answer = Ok (OnBoard (known_answer a.board is)) }) (put_twice y.number y w.boards refl)

again_outcome : (w : World) (name : List ℕ) (n : ℕ) (is : List Incoming) (m : ℕ) (a : BoardAnswer) (caller : ℕ) (role : Role) (x : Board)
    (r : Result (Board × BoardAnswer) Refusal) → IsGoodWorld (applied w r).world
    → number_of w name ≡ Some caller → role_of w n caller ≡ Some role → find_board w n ≡ Some x → may_change role ≡ true
    → outcome x (Import (Json is)) m ≡ r
    → (applied w r).answer ≡ Ok (OnBoard a) → a.more ≡ false → IsKnownAgain name n is m a (applied w r).world
again_outcome w name n is m a caller role x (Err refusal) good known own found allowed gives h enough = absurd (cc)
again_outcome w name n is m a caller role x (Ok r) good known own found allowed gives h enough =
    let told : r.1 ≡ a = ap (answer_on a) h in
    again_at w name n is m a caller role x r.0 good known own found allowed (gives ∙ ap (λ b. Ok (r.0, b)) told) enough

again_allowed : (w : World) (name : List ℕ) (n : ℕ) (is : List Incoming) (m : ℕ) (a : BoardAnswer) (caller : ℕ) (role : Role) (x : Board)
    (allowed : Bool) → IsGoodWorld (applied w (if_allowed allowed (outcome x (Import (Json is)) m))).world
    → number_of w name ≡ Some caller → role_of w n caller ≡ Some role → find_board w n ≡ Some x → may_change role ≡ allowed
    → (applied w (if_allowed allowed (outcome x (Import (Json is)) m))).answer ≡ Ok (OnBoard a) → a.more ≡ false
    → IsKnownAgain name n is m a (applied w (if_allowed allowed (outcome x (Import (Json is)) m))).world
again_allowed w name n is m a caller role x true good known own found allowed h enough =
    again_outcome w name n is m a caller role x (outcome x (Import (Json is)) m) good known own found allowed refl h enough
again_allowed w name n is m a caller role x false good known own found refused h enough = absurd (cc)

again_seen : (w : World) (name : List ℕ) (n : ℕ) (is : List Incoming) (m : ℕ) (a : BoardAnswer) (caller : ℕ) (role : Option Role) (o : Option Board)
    → IsGoodWorld (applied w (decided (Some caller) (seen_with role o) (Import (Json is)) m)).world
    → number_of w name ≡ Some caller → role_of w n caller ≡ role → find_board w n ≡ o
    → (applied w (decided (Some caller) (seen_with role o) (Import (Json is)) m)).answer ≡ Ok (OnBoard a) → a.more ≡ false
    → IsKnownAgain name n is m a (applied w (decided (Some caller) (seen_with role o) (Import (Json is)) m)).world
again_seen w name n is m a caller None o good known own found h enough = absurd (cc)
again_seen w name n is m a caller (Some role) None good known own found h enough = absurd (cc)
again_seen w name n is m a caller (Some role) (Some x) good known own found h enough =
    again_allowed w name n is m a caller role x (may_change role) good known own found refl h enough

again_by : (w : World) (name : List ℕ) (n : ℕ) (is : List Incoming) (m : ℕ) (a : BoardAnswer) (caller : Option ℕ)
    → IsGoodWorld (applied w (decided caller (board_for w caller (Some n)) (Import (Json is)) m)).world → number_of w name ≡ caller
    → (applied w (decided caller (board_for w caller (Some n)) (Import (Json is)) m)).answer ≡ Ok (OnBoard a) → a.more ≡ false
    → IsKnownAgain name n is m a (applied w (decided caller (board_for w caller (Some n)) (Import (Json is)) m)).world
again_by w name n is m a None good known h enough = absurd (cc)
again_by w name n is m a (Some caller) good known h enough =
    again_seen w name n is m a caller (role_of w n caller) (find_board w n) good known refl refl h enough

pub json_again : ImportJsonAgain
json_again w name n is m a good h enough =
    again_by w name n is m a (number_of w name) (stays_good w name (json_import n is) m good) refl h enough
