-- What is noted of tasks, so that one knows whether one wakes.
use Rattle.std.proofs.Common.{◌≡◌, ◌∙◌, ℕ, suc, zero, Bool, true, false, true≢false, ◌||◌, ◌&&◌, List, [], ◌∷◌, ◌++◌, Option, Some, None, map, set, refl, sym, ap, inl, inr}
use Rattle.std.specs.List.{list_any}
use Rattle.std.proofs.lemmas.Bool.{cases_Bool}
use Rattle.tb_task.specs.declared.task.Task.{Task}
use Rattle.tb_task.specs.declared.status.Status.{Status}
use Rattle.tb_board.specs.FirstWait.{open_wait}
use Rattle.tb_board.specs.Board.{wake}
use Rattle.tb_board.specs.Tasks.{has_come, is_waiting, wakes, woken}
use Rattle.tb_board.specs.declared.board.Board.{Board}
use Rattle.tb_board.proofs.Awake.{not_woken}

pub neither : (a b : Bool) → (a || b) ≡ false → (a ≡ false) × (b ≡ false)
neither false b h = (refl, h)
neither true b h = absurd (cc)

pub both : (a b : Bool) → a ≡ false → b ≡ false → (a || b) ≡ false
both a b off also = rw (off, also) refl

-- one of which the same isn't so takes a place, or comes last
pub none_set : {A : Type 0} (test : A → Bool) (xs : List A) (place : ℕ) (x : A) → list_any test xs ≡ false → test x ≡ false → list_any test (set xs place x) ≡ false
none_set test [] place x none here = refl
none_set test (y ∷ ys) zero x none here =
    both (test x) (list_any test ys) here (neither (test y) (list_any test ys) none).1
none_set test (y ∷ ys) (suc place) x none here =
    let parts = neither (test y) (list_any test ys) none in
    both (test y) (list_any test (set ys place x)) parts.0 (none_set test ys place x parts.1 here)

pub none_push : {A : Type 0} (test : A → Bool) (xs : List A) (x : A) → list_any test xs ≡ false → test x ≡ false → list_any test (xs ++ x ∷ []) ≡ false
none_push test [] x none here = both (test x) false here refl
none_push test (y ∷ ys) x none here =
    let parts = neither (test y) (list_any test ys) none in
    both (test y) (list_any test (ys ++ x ∷ [])) parts.0 (none_push test ys x parts.1 here)

waits : (s : Status) (wait : Option ℕ) (m : ℕ) → has_come (open_wait s wait) m ≡ (is_waiting s && has_come wait m)
waits s wait m =
    elim (cases_Bool (is_waiting s)) [
      | inl waiting ↦ rw waiting refl
      | inr not_waiting ↦ rw not_waiting refl
    ]

-- one more task is noted
pub noted : (m : ℕ) (first next wait : Option ℕ) (t : Task) → ((m : ℕ) → has_come next m ≡ (has_come first m || has_come wait m)) → wait ≡ open_wait t.status t.wait
    → has_come next m ≡ (has_come first m || wakes m t)
unfolding wakes
noted m first next wait t earlier is =
    rw (earlier m, is, waits t.status t.wait m) refl

-- where none wakes the board is awake
none_woken : (m : ℕ) (ts : List Task) → list_any (wakes m) ts ≡ false → map (woken m) ts ≡ ts
none_woken m [] none = refl
none_woken m (t ∷ ts) none =
    let parts = neither (wakes m t) (list_any (wakes m) ts) none in
    ap (λ (x : Task). x ∷ map (woken m) ts) (not_woken m t parts.0) ∙ ap (λ l. t ∷ l) (none_woken m ts parts.1)

pub is_awake : (b : Board) (m : ℕ) → list_any (wakes m) b.tasks ≡ false → wake b m ≡ b
is_awake b m none = ap (λ ts. record b { tasks = ts }) (none_woken m b.tasks none)
