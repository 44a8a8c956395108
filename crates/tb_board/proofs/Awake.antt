-- The steps by which a board wakes.
use Rattle.std.proofs.Common.{◌≡◌, ℕ, zero, suc, ◌+◌, ◌-◌, ◌<◌, ◌≤◌, true, false, List, [], ◌∷◌, ◌++◌, length, get_or, set, take, drop, map, refl, sym, ◌∙◌, arith, append_assoc, drop-cons}
use Rattle.std.proofs.lemmas.List.{take_more, take_all, length-take-le, length-map, map-append, set-append_right, get_or-append_right, drop_all, append-nil}
use Rattle.tb_task.specs.declared.task.Task.{Task}
use Rattle.tb_task.specs.declared.status.Status.TheVariants.{Pending}
use Rattle.tb_board.specs.declared.board.Board.{Board}
use Rattle.tb_board.specs.Tasks.{wakes, woken}

-- the tasks before place i are awake
abbrev pub woken_to : ℕ → List Task → ℕ → List Task
woken_to m ts i = map (woken m) (take i ts) ++ drop i ts

pub not_woken : (m : ℕ) (t : Task) → wakes m t ≡ false → woken m t ≡ t
not_woken m t sleeps = rw sleeps refl

pub is_woken : (m : ℕ) (t : Task) → wakes m t ≡ true → woken m t ≡ record t { status = Pending }
is_woken m t wakes = rw wakes refl

map-take_more : (m : ℕ) (ts : List Task) (i : ℕ) (t : Task) → i < length ts → map (woken m) (take (i + 1) ts) ≡ map (woken m) (take i ts) ++ woken m (get_or ts i t) ∷ []
map-take_more m ts i t within = rw (take_more ts i t within) (map-append (woken m) (take i ts) (get_or ts i t ∷ []))

length-map-take : (m : ℕ) (ts : List Task) (i : ℕ) → i ≤ length ts → length (map (woken m) (take i ts)) ≡ i
length-map-take m ts i within = length-map (take i ts) (woken m) ∙ length-take-le i ts within

pub woken_to-next : (m : ℕ) (ts : List Task) (i : ℕ) (t : Task) → i < length ts → t ≡ get_or ts i t
    → set (woken_to m ts i) i (woken m t) ≡ woken_to m ts (i + 1)
woken_to-next m ts i t within is =
    let front : length (map (woken m) (take i ts)) ≡ i = length-map-take m ts i (omega arith) in
    let next : i + 1 ≡ suc i = omega arith in
    let none : i - i ≡ 0 = omega arith in
    rw (map-take_more m ts i t within, ← is, set-append_right (map (woken m) (take i ts)) (drop i ts) i i (woken m t) front (omega arith), none, drop-cons ts i t within, next, append_assoc) refl

pub woken_to-at : (m : ℕ) (ts : List Task) (i : ℕ) (t : Task) → i < length ts → get_or (woken_to m ts i) i t ≡ get_or ts i t
woken_to-at m ts i t within =
    let front : length (map (woken m) (take i ts)) ≡ i = length-map-take m ts i (omega arith) in
    let none : i - i ≡ 0 = omega arith in
    get_or-append_right (map (woken m) (take i ts)) (drop i ts) i i t front (omega arith) ∙ rw (none, drop-cons ts i t within) refl

pub woken_to-all : (m : ℕ) (ts : List Task) (i : ℕ) → length ts ≤ i → woken_to m ts i ≡ map (woken m) ts
woken_to-all m ts i over = rw (take_all i ts over, drop_all i ts over) (append-nil (map (woken m) ts))

pub stands_at : (xs : List Task) (i : ℕ) → i < length xs → (t : Task) × (t ≡ get_or xs i t)
stands_at [] i within = absurd (omega arith)
stands_at (x ∷ xs) zero within = (x, refl)
stands_at (x ∷ xs) (suc i) within = stands_at xs i (omega arith)

pub wakes_on : (m : ℕ) (start b later : Board) (i : ℕ) → i < length start.tasks → b ≡ record start { tasks = woken_to m start.tasks i }
    → ((t : Task) → t ≡ get_or b.tasks i t → later ≡ record b { tasks = set b.tasks i (woken m t) })
    → later ≡ record start { tasks = woken_to m start.tasks (i + 1) }
wakes_on m start b later i within is wakes =
    let there = stands_at start.tasks i within in
    let here : there.0 ≡ get_or b.tasks i there.0 = rw is (there.1 ∙ sym (woken_to-at m start.tasks i there.0 within)) in
    let next : set (woken_to m start.tasks i) i (woken m there.0) ≡ woken_to m start.tasks (i + 1) = woken_to-next m start.tasks i there.0 within there.1 in
    wakes there.0 here ∙ rw (is, next) refl
