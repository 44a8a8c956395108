-- The identifier that a board makes next is on no task.
use Rattle.std.proofs.Common.{◌≡◌, ℕ, zero, suc, ◌+◌, ◌-◌, ◌<◌, ◌≤◌, ◌==◌, nat_eq, nat_lt, Bool, true, false, List, [], ◌∷◌, length, refl, sym, ◌∙◌, ap, arith, inl, inr, true≢false, cond, ◌||◌}
use Rattle.std.specs.List.{list_any}
use Rattle.std.specs.Cmp.{nat_eq_equiv}
use Rattle.std.proofs.lemmas.Bool.{cases_Bool, eqb-true, ltb-true, ltb-false}
use Rattle.tb_task.specs.declared.task.Task.{Task}
use Rattle.tb_task.specs.TaskId.{made}
use Rattle.tb_board.specs.declared.board.Board.{Board}
use Rattle.tb_board.specs.Board.{is_on}
use Rattle.tb_board.specs.Tasks.{has_id, ids}
use Rattle.tb_board.specs.Numbers.{first_free, free, free_id}

-- whether y is among the numbers
abbrev pub among : ℕ → List ℕ → Bool
among y xs = list_any (λ x. x == y) xs

remove_one : ℕ → List ℕ → List ℕ
remove_one y [] = []
remove_one y (x ∷ xs) = cond (x == y) xs (x ∷ remove_one y xs)

length-remove_one : (y : ℕ) (xs : List ℕ) → among y xs ≡ true → length xs ≡ suc (length (remove_one y xs))
unfolding remove_one
length-remove_one y [] h = absurd (true≢false (sym h))
length-remove_one y (x ∷ xs) h =
    elim (cases_Bool (x == y)) [
      | inl here ↦ rw here refl
      | inr other ↦ let tail : among y xs ≡ true = rw other at h in rw other (ap suc (length-remove_one y xs tail))
    ]

among-remove_one : (y z : ℕ) (xs : List ℕ) → (z ≡ y → ⊥) → among z xs ≡ true → among z (remove_one y xs) ≡ true
unfolding remove_one
among-remove_one y z [] differ h = h
among-remove_one y z (x ∷ xs) differ h =
    elim (cases_Bool (x == y)) [
      | inl here ↦ rw here (kept y z x xs differ here h)
      | inr other ↦ rw other (elim (cases_Bool (x == z)) [
        | inl found ↦ rw found refl
        | inr elsewhere ↦ let tail : among z xs ≡ true = rw elsewhere at h in rw elsewhere (among-remove_one y z xs differ tail)
      ])
    ]
  where
    kept : (y z x : ℕ) (xs : List ℕ) → (z ≡ y → ⊥) → (x == y) ≡ true → among z (x ∷ xs) ≡ true → among z xs ≡ true
    kept y z x xs differ here h =
        elim (cases_Bool (x == z)) [
          | inl found ↦ absurd (differ (sym (eqb-true x z found) ∙ eqb-true x y here))
          | inr elsewhere ↦ rw elsewhere at h
        ]

-- a list with m numbers in a row has m items
pub many : (base m : ℕ) (xs : List ℕ) → ((k : ℕ) → k < m → among (base + k) xs ≡ true) → m ≤ length xs
many base zero xs h = omega arith
many base (suc m) xs h =
    let shorter = length-remove_one (base + m) xs (h m (omega arith)) in
    let fewer = many base m (remove_one (base + m) xs)
    (λ k below. among-remove_one (base + m) (base + k) xs (λ same. omega arith) (h k (omega arith))) in
    omega (arith, shorter, fewer)

pub on_ids : (id : ℕ) (ts : List Task) → list_any (has_id id) ts ≡ among id (ids ts)
on_ids id [] = refl
on_ids id (t ∷ ts) = ap (λ b. (t.id == id) || b) (on_ids id ts)

length-ids : (ts : List Task) → length (ids ts) ≡ length ts
length-ids [] = refl
length-ids (t ∷ ts) = ap suc (length-ids ts)

-- where the search ends at a taken number, all on its way are taken
walk : (b : Board) (n steps : ℕ) → is_on b (made b.number (first_free b n steps)) ≡ true
    → (k : ℕ) → k < suc steps → is_on b (made b.number (n + k)) ≡ true
walk b n zero h k below = let first : n + k ≡ n = omega arith in rw first h
walk b n (suc steps) h k below =
    elim (cases_Bool (is_on b (made b.number n))) [
      | inl taken ↦
          let later : is_on b (made b.number (first_free b (n + 1) steps)) ≡ true = rw taken at h in
          onward b n steps k below taken (walk b (n + 1) steps later)
      | inr vacant ↦ let here : is_on b (made b.number n) ≡ true = rw vacant at h in absurd (true≢false (sym here ∙ vacant))
    ]
  where
    onward : (b : Board) (n steps k : ℕ) → k < suc (suc steps) → is_on b (made b.number n) ≡ true
        → ((j : ℕ) → j < suc steps → is_on b (made b.number (n + 1 + j)) ≡ true) → is_on b (made b.number (n + k)) ≡ true
    onward b n steps zero below taken rest = let first : n + 0 ≡ n = omega arith in rw first taken
    onward b n steps (suc j) below taken rest = let next : n + suc j ≡ n + 1 + j = omega arith in rw next (rest j (omega arith))

made-from : (b k : ℕ) → made b (1 + k) ≡ made b 1 + k
unfolding made
made-from b k = omega arith

pub fresh : (b : Board) → is_on b (free_id b) ≡ false
unfolding free
fresh b =
    elim (cases_Bool (is_on b (free_id b))) [
      | inl taken ↦
          let full = many (made b.number 1) (suc (length b.tasks)) (ids b.tasks)
          (λ k below. rw (← made-from b.number k, ← on_ids (made b.number (1 + k)) b.tasks) (walk b 1 (length b.tasks) taken k below)) in
          absurd (omega (arith, full, length-ids b.tasks))
      | inr vacant ↦ vacant
    ]

-- the same, as a set of keys asks
pub among-swapped : (y : ℕ) (xs : List ℕ) → list_any (nat_eq y) xs ≡ among y xs
among-swapped y [] = refl
among-swapped y (x ∷ xs) = rw (nat_eq_equiv.symm y x) (ap (λ b. (x == y) || b) (among-swapped y xs))

reaches : (b : Board) (s steps n : ℕ) → s ≤ n → n ≤ s + steps → ((j : ℕ) → s ≤ j → j < n → is_on b (made b.number j) ≡ true)
    → is_on b (made b.number n) ≡ false → first_free b s steps ≡ n
reaches b s zero n from to taken vacant = omega arith
reaches b s (suc steps) n from to taken vacant =
    elim (cases_Bool (is_on b (made b.number s))) [
      | inl here ↦
          let before : s < n = passes b s n from here vacant in
          rw here (reaches b (s + 1) steps n (omega arith) (omega arith) (λ j past below. taken j (omega arith) below) vacant)
      | inr other ↦ rw other (ends b s n from taken other)
    ]
  where
    passes : (b : Board) (s n : ℕ) → s ≤ n → is_on b (made b.number s) ≡ true → is_on b (made b.number n) ≡ false → s < n
    passes b s n from here vacant =
        elim (cases_Bool (nat_lt s n)) [
          | inl below ↦ ltb-true s n below
          | inr not_below ↦
              let same : s ≡ n = omega (arith, from, ltb-false s n not_below) in
              absurd (true≢false (sym here ∙ ap (λ i. is_on b (made b.number i)) same ∙ vacant))
        ]

    ends : (b : Board) (s n : ℕ) → s ≤ n → ((j : ℕ) → s ≤ j → j < n → is_on b (made b.number j) ≡ true) → is_on b (made b.number s) ≡ false → s ≡ n
    ends b s n from taken other =
        elim (cases_Bool (nat_lt s n)) [
          | inl below ↦ absurd (true≢false (sym (taken s (omega arith) (ltb-true s n below)) ∙ other))
          | inr not_below ↦ omega (arith, from, ltb-false s n not_below)
        ]

-- numbers that are all on the board are no more than its tasks
pub taken_few : (b : Board) (n : ℕ) → 1 ≤ n → ((j : ℕ) → 1 ≤ j → j < n → is_on b (made b.number j) ≡ true) → n ≤ length b.tasks + 1
taken_few b n from taken =
    let full = many (made b.number 1) (n - 1) (ids b.tasks)
    (λ k below. rw (← made-from b.number k, ← on_ids (made b.number (1 + k)) b.tasks) (taken (1 + k) (omega arith) (omega arith))) in
    omega (arith, full, length-ids b.tasks)

-- the free number is the one that isn't on the board while all before it are
pub free_is : (b : Board) (n : ℕ) → 1 ≤ n → ((j : ℕ) → 1 ≤ j → j < n → is_on b (made b.number j) ≡ true) → is_on b (made b.number n) ≡ false → free b ≡ n
unfolding free
free_is b n from taken vacant = reaches b 1 (length b.tasks) n from (omega (arith, taken_few b n from taken)) taken vacant
