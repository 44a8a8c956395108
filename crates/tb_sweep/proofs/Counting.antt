-- Counts of places, one by one.
use Rattle.std.proofs.Common.{◌≡◌, ℕ, ◌+◌, ◌<◌, ◌≤◌, ◌==◌, min, true, false, [], ◌∷◌, Some, None, refl, arith, inl, inr, length-append, if◌then◌else◌}
use Rattle.std.proofs.lemmas.Bool.{cases_Bool}
use Rattle.std.proofs.lemmas.List.{append-nil}
use Rattle.tb_task.specs.declared.task.Task.{Task}
use Rattle.tb_recur.specs.Instances.{instance}
use Rattle.tb_board.specs.declared.board.Board.{Board}
use Rattle.tb_board.specs.Board.{with_task}
use Rattle.tb_board.proofs.Runs.{places-push}
use Rattle.tb_board.specs.InstancePlaces.{place_in}
use Rattle.tb_board.specs.Templates.{places, count}
use Rattle.tb_sweep.specs.declared.counts.Counts.{Counts}
use Rattle.tb_sweep.specs.Counts.{AreCounts, number_at}

pub place-own : (t : Task) (k n m : ℕ) (id : ℕ) → (t.id == id) ≡ true → place_in id (instance t k n m) ≡ Some k
unfolding instance
place-own t k n m id own = rw own refl

pub place-other : (t : Task) (k n m : ℕ) (id : ℕ) → (t.id == id) ≡ false → place_in id (instance t k n m) ≡ None
unfolding instance
place-other t k n m id other = rw other refl

pub count-own : (b : Board) (t : Task) (k n m : ℕ) (id : ℕ) → (t.id == id) ≡ true → count (with_task b (instance t k n m)) id ≡ count b id + 1
count-own b t k n m id own =
    rw (places-push b id (instance t k n m), place-own t k n m id own) (omega (arith, length-append (places b id) (k ∷ [])))

pub count-other : (b : Board) (t : Task) (k n m : ℕ) (id : ℕ) → (t.id == id) ≡ false → count (with_task b (instance t k n m)) id ≡ count b id
count-other b t k n m id other =
    rw (places-push b id (instance t k n m), place-other t k n m id other, append-nil (places b id)) refl

-- below the end a number is the count
pub count_is : (b : Board) (c : Counts) (id n : ℕ) → AreCounts b c → n ≡ number_at c id → n < 2932898 → n ≡ count b id
count_is b c id n counts is early = omega (arith, counts id, is, early)

pub count_past : (b : Board) (c : Counts) (id : ℕ) → AreCounts b c → 2932898 ≤ number_at c id → 2932898 ≤ count b id
count_past b c id counts past = omega (arith, counts id, past)

-- one instance more, and one number
pub counts_more : (b : Board) (c later : Counts) (t : Task) (k n m : ℕ) → AreCounts b c
    → ((q : ℕ) → number_at later q ≡ (if t.id == q then min 4294967295 (number_at c q + 1) else number_at c q)) → AreCounts (with_task b (instance t k n m)) later
counts_more b c later t k n m counts more q =
    let step = more q in
    elim (cases_Bool (t.id == q)) [
      | inl own ↦
          let is : number_at later q ≡ min 4294967295 (number_at c q + 1) = rw own at step in
          omega (arith, is, counts q, count-own b t k n m q own)
      | inr other ↦
          let is : number_at later q ≡ number_at c q = rw other at step in
          omega (arith, is, counts q, count-other b t k n m q other)
    ]
