-- What marks tell of the free numbers of a board.
use Rattle.std.proofs.Common.{◌≡◌, ℕ, ◌+◌, ◌<◌, ◌≤◌, ◌==◌, ◌||◌, nat_lt, Bool, true, false, List, [], ◌∷◌, length, refl, sym, ◌∙◌, ap, arith, inl, inr, true≢false}
use Rattle.std.proofs.Math.Bool.{or-false}
use Rattle.std.proofs.lemmas.Bool.{cases_Bool, ltb-true, ltb-false, eq-eqb, ne_eqb}
use Rattle.std.proofs.lemmas.List.Folds.{list_any-append}
use Rattle.tb_task.specs.declared.task.Task.{Task}
use Rattle.tb_task.specs.TaskId.{made}
use Rattle.tb_board.specs.declared.board.Board.{Board}
use Rattle.tb_board.specs.Board.{is_on}
use Rattle.tb_board.specs.Tasks.{has_id}
use Rattle.tb_board.specs.Numbers.{free}
use Rattle.tb_board.specs.Marks.{Knows, IsNextFree}
use Rattle.tb_board.specs.Board.{with_task}
use Rattle.tb_board.proofs.Fresh.{free_is, taken_few}

before_next : (b : Board) (marks : List Bool) (next r : ℕ) → Knows b marks next → IsNextFree marks next r
    → (j : ℕ) → 1 ≤ j → j < r → is_on b (made b.number j) ≡ true
before_next b marks next r knows is j from below =
    elim (cases_Bool (nat_lt j next)) [
      | inl early ↦ knows.before j from (ltb-true j next early)
      | inr late ↦
          let past = ltb-false j next late in
          sym (knows.after j past (omega (arith, below, is.within, knows.size))) ∙ is.passed j past below
    ]

pub next_small : (b : Board) (marks : List Bool) (next r : ℕ) → Knows b marks next → IsNextFree marks next r → length b.tasks < 10000 → r ≤ 10000
next_small b marks next r knows is room =
    let few = taken_few b r (omega (arith, knows.from, is.from)) (before_next b marks next r knows is) in
    omega (arith, few, room)

pub next_is_free : (b : Board) (marks : List Bool) (next r : ℕ) → Knows b marks next → IsNextFree marks next r → length b.tasks < 10000 → r ≡ free b
next_is_free b marks next r knows is room =
    let from : 1 ≤ r = omega (arith, knows.from, is.from) in
    let taken = before_next b marks next r knows is in
    let few = taken_few b r from taken in
    let early : r < 10001 = omega (arith, few, room) in
    let vacant : is_on b (made b.number r) ≡ false = sym (knows.after r is.from early) ∙ is.vacant (omega (arith, early, knows.size)) in
    sym (free_is b r from taken vacant)

-- on a board that is full or not
pub least_is_free : (b : Board) (marks : List Bool) (r : ℕ) → Knows b marks 1 → IsNextFree marks 1 r → length b.tasks ≤ 10000 → r ≡ free b
least_is_free b marks r knows is few =
    let taken = before_next b marks 1 r knows is in
    elim (cases_Bool (is_on b (made b.number r))) [
      | inl there ↦
          let all = taken_few b (r + 1) (omega arith) (next_taken b r taken there) in
          let early : r < 10001 = omega (arith, all, few) in
          let vacant : is_on b (made b.number r) ≡ false = sym (knows.after r is.from early) ∙ is.vacant (omega (arith, early, knows.size)) in
          absurd (true≢false (sym there ∙ vacant))
      | inr vacant ↦ sym (free_is b r is.from taken vacant)
    ]
  where
    next_taken : (b : Board) (r : ℕ) → ((j : ℕ) → 1 ≤ j → j < r → is_on b (made b.number j) ≡ true) → is_on b (made b.number r) ≡ true
        → (j : ℕ) → 1 ≤ j → j < r + 1 → is_on b (made b.number j) ≡ true
    next_taken b r before there j from below =
        elim (cases_Bool (nat_lt j r)) [
          | inl early ↦ before j from (ltb-true j r early)
          | inr late ↦ let same : j ≡ r = omega (arith, below, ltb-false j r late) in ap (λ n. is_on b (made b.number n)) same ∙ there
        ]

on-with_task : (b : Board) (t : Task) (id : ℕ) → is_on (with_task b t) id ≡ (is_on b id || (t.id == id))
on-with_task b t id = list_any-append (has_id id) b.tasks (t ∷ []) ∙ ap (λ q. is_on b id || q) (or-false (t.id == id))

made-apart : (b m n : ℕ) → m < n → made b m ≡ made b n → ⊥
unfolding made
made-apart b m n less same = omega arith

-- after a task under the free number
pub knows_more : (b : Board) (marks : List Bool) (next r : ℕ) (t : Task) → Knows b marks next → IsNextFree marks next r → t.id ≡ made b.number r
    → Knows (with_task b t) marks (r + 1)
knows_more b marks next r t knows is id =
    record {
      size = knows.size;
      from = omega arith;
      before = λ n from below. rw (on-with_task b t (made b.number n), id) (elim (cases_Bool (nat_lt n r)) [
        | inl early ↦ rw (before_next b marks next r knows is n from (ltb-true n r early)) refl
        | inr late ↦
            let same : r ≡ n = omega (arith, below, ltb-false n r late) in
            rw (eq-eqb (made b.number r) (made b.number n) (ap (made b.number) same)) (or_true (is_on b (made b.number n)))
      ]);
      after = λ n past below. rw (on-with_task b t (made b.number n), id, ne_eqb (made b.number r) (made b.number n) (made-apart b.number r n (omega arith)), or-false (is_on b (made b.number n))) (knows.after n (omega (arith, past, is.from)) below);
    }
  where
    or_true : (q : Bool) → (q || true) ≡ true
    or_true true = refl
    or_true false = refl
