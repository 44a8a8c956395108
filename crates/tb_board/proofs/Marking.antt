-- Marks of the numbers of tasks.
use Rattle.std.proofs.Common.{◌≡◌, ℕ, ◌<◌, ◌≤◌, ◌==◌, ◌||◌, Bool, true, false, List, [], ◌∷◌, length, set, replicate, refl, sym, ◌∙◌, ap, arith, inl, inr}
use Rattle.std.specs.List.{list_any}
use Rattle.std.proofs.Math.Bool.{or-false}
use Rattle.std.proofs.lemmas.Bool.{cases_Bool, eqb-true, eqb-false, eq-eqb, ne_eqb}
use Rattle.tb_task.specs.declared.task.Task.{Task}
use Rattle.tb_task.specs.TaskId.{made}
use Rattle.tb_board.specs.declared.board.Board.{Board}
use Rattle.tb_board.specs.Board.{is_on}
use Rattle.tb_board.specs.Tasks.{has_id}
use Rattle.tb_board.specs.Marks.{is_marked, Knows, IsMarkedFor}
use Rattle.std.proofs.lemmas.List.{length-set, get_or-set_same, get_or-set_other, get_or-replicate, length-replicate}

or_true : (q : Bool) → (q || true) ≡ true
or_true true = refl
or_true false = refl

made_same : (b m n : ℕ) → made b m ≡ made b n → m ≡ n
unfolding made
made_same b m n same = omega arith

-- a number with another identifier
other_number : (t : Task) (board number n : ℕ) → t.id ≡ made board number → (number ≡ n → ⊥) → has_id (made board n) t ≡ false
other_number t board number n id apart = rw id (ne_eqb (made board number) (made board n) (λ same. apart (made_same board number n same)))

pub mark_beyond : (t : Task) (board number : ℕ) (marks : List Bool) → t.id ≡ made board number → length marks ≤ number → IsMarkedFor (t ∷ []) board marks marks
mark_beyond t board number marks id beyond =
    record {
      size = refl;
      marks = λ n from below small. rw (other_number t board number n id (λ same. omega arith), or-false (is_marked marks n)) refl;
    }

pub mark_within : (t : Task) (board number : ℕ) (marks : List Bool) → t.id ≡ made board number → number < length marks → IsMarkedFor (t ∷ []) board marks (set marks number true)
mark_within t board number marks id within =
    record {
      size = length-set marks number true;
      marks = λ n from below small. elim (cases_Bool (number == n)) [
        | inl here ↦
            let same = eqb-true number n here in
            let own : (t.id == made board n) ≡ true = eq-eqb t.id (made board n) (id ∙ ap (made board) same) in
            rw (own, or_true (is_marked marks n), ← same) (get_or-set_same marks number true false within)
        | inr elsewhere ↦
            let apart = eqb-false number n elsewhere in
            rw (other_number t board number n id apart, or-false (is_marked marks n)) (get_or-set_other marks number n true false (λ same. apart (sym same)))
      ];
    }

pub knows_begin : (b : Board) (tasks : List Task) (size : ℕ) (marks : List Bool) → tasks ≡ b.tasks → size ≡ 10001 → IsMarkedFor tasks b.number (replicate size false) marks → Knows b marks 1
knows_begin b tasks size marks all is marked =
    let whole : length (replicate size false) ≡ size = length-replicate size false in
    record {
      size = marked.size ∙ whole ∙ is;
      from = omega arith;
      before = λ n from below. absurd (omega arith);
      after = λ n from below.
          marked.marks n from (omega (arith, whole, is, below)) (omega (arith, below))
          ∙ ap (λ (ts : List Task). is_marked (replicate size false) n || list_any (has_id (made b.number n)) ts) all
          ∙ ap (λ q. q || is_on b (made b.number n)) (get_or-replicate size n false false (omega (arith, is, below)));
    }
