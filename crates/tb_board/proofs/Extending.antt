-- A world has all that it had itself, and what it has stays over several steps.
use Rattle.std.proofs.Common.{◌≡◌, ℕ, Bool, List, [], ◌∷◌, ◌++◌, Option, Some, find, map, refl, sym, ◌∙◌, subst, inl, inr}
use Rattle.std.proofs.lemmas.Bool.{cases_Bool}
use Rattle.tb_task.specs.declared.task.Task.{Task}
use Rattle.tb_board.specs.declared.board.Board.{Board}
use Rattle.tb_board.specs.declared.world.Person.{Person}
use Rattle.tb_board.specs.declared.world.World.{World}
use Rattle.tb_board.specs.Board.{wake}
use Rattle.tb_board.specs.Tasks.{woken}
use Rattle.tb_board.specs.Changing.{change_board, set_key, with_key, with_title}
use Rattle.tb_board.specs.Extends.{Extends, ExtendsBoard, ExtendsPerson, ExtendsTask, IsFrontOf}
use Rattle.tb_board.specs.First.{change_first}
use Rattle.tb_board.specs.World.{has_name, has_number}

-- ---- fronts of lists

pub front-refl : {A : Type 0} (R : A → A → Type 0) → ((x : A) → R x x) → (xs : List A) → IsFrontOf R xs xs
front-refl R own [] = tt
front-refl R own (x ∷ xs) = (own x, front-refl R own xs)

pub front-trans : {A : Type 0} (R : A → A → Type 0) → ((x y z : A) → R x y → R y z → R x z) → (xs ys zs : List A) → IsFrontOf R xs ys → IsFrontOf R ys zs
    → IsFrontOf R xs zs
front-trans R both [] ys zs first later = tt
front-trans R both (x ∷ xs) [] zs first later = absurd first
front-trans R both (x ∷ xs) (y ∷ ys) [] first later = absurd later
front-trans R both (x ∷ xs) (y ∷ ys) (z ∷ zs) first later = (both x y z first.0 later.0, front-trans R both xs ys zs first.1 later.1)

-- further items go last
pub front-append : {A : Type 0} (R : A → A → Type 0) → ((x : A) → R x x) → (xs more : List A) → IsFrontOf R xs (xs ++ more)
front-append R own [] more = tt
front-append R own (x ∷ xs) more = (own x, front-append R own xs more)

pub front-map : {A : Type 0} (R : A → A → Type 0) (f : A → A) → ((x : A) → R x (f x)) → (xs : List A) → IsFrontOf R xs (map f xs)
front-map R f each [] = tt
front-map R f each (x ∷ xs) = (each x, front-map R f each xs)

-- the first item that passes is changed
pub front-change : {A : Type 0} (R : A → A → Type 0) → ((x : A) → R x x) → (test : A → Bool) (f : A → A) (xs : List A) → ((x : A) → find test xs ≡ Some x → R x (f x))
    → IsFrontOf R xs (change_first test f xs)
front-change R own test f [] found = tt
front-change R own test f (x ∷ xs) found =
    elim (cases_Bool (test x)) [
      | inl here ↦ rw here (found x (rw here refl), front-refl R own xs)
      | inr other ↦ rw other (own x, front-change R own test f xs (λ y later. found y (rw other later)))
    ]

-- ---- tasks and boards

pub task-refl : (t : Task) → ExtendsTask t t
task-refl t = record { id = refl; parent = refl; imask = refl }

pub task-trans : (t u v : Task) → ExtendsTask t u → ExtendsTask u v → ExtendsTask t v
task-trans t u v first later = record { id = later.id ∙ first.id; parent = later.parent ∙ first.parent; imask = later.imask ∙ first.imask }

pub board-refl : (b : Board) → ExtendsBoard b b
board-refl b = record { number = refl; tasks = front-refl ExtendsTask task-refl b.tasks }

pub board-trans : (b c d : Board) → ExtendsBoard b c → ExtendsBoard c d → ExtendsBoard b d
board-trans b c d first later =
    record {
      number = later.number ∙ first.number;
      tasks = front-trans ExtendsTask task-trans b.tasks c.tasks d.tasks first.tasks later.tasks;
    }

-- tasks go last on the board, whatever becomes of its gone places
pub board-append : (b c : Board) (more : List Task) → c.number ≡ b.number → c.tasks ≡ b.tasks ++ more → ExtendsBoard b c
board-append b c more number tasks =
    record { number = number; tasks = subst (IsFrontOf ExtendsTask b.tasks) (sym tasks) (front-append ExtendsTask task-refl b.tasks more) }

pub board-change : (b : Board) (test : Task → Bool) (f : Task → Task) → ((t : Task) → ExtendsTask t (f t)) → ExtendsBoard b (record b { tasks = change_first test f b.tasks })
board-change b test f each = record { number = refl; tasks = front-change ExtendsTask task-refl test f b.tasks (λ t found. each t) }

pub board-wake : (b : Board) (m : ℕ) → ExtendsBoard b (wake b m)
board-wake b m = record { number = refl; tasks = front-map ExtendsTask (woken m) (λ t. record { id = refl; parent = refl; imask = refl }) b.tasks }

-- ---- people

pub people-refl : (ps : List Person) → IsFrontOf ExtendsPerson ps ps
people-refl ps = front-refl ExtendsPerson (λ p. refl) ps

pub people-trans : (ps qs rs : List Person) → IsFrontOf ExtendsPerson ps qs → IsFrontOf ExtendsPerson qs rs → IsFrontOf ExtendsPerson ps rs
people-trans ps qs rs first later = front-trans ExtendsPerson (λ p q r. λ one two. two ∙ one) ps qs rs first later

pub people-append : (ps more : List Person) → IsFrontOf ExtendsPerson ps (ps ++ more)
people-append ps more = front-append ExtendsPerson (λ p. refl) ps more

pub people-set_key : (name : List ℕ) (key : Option (List ℕ)) (ps : List Person) → IsFrontOf ExtendsPerson ps (set_key name key ps)
people-set_key name key ps = front-change ExtendsPerson (λ p. refl) (has_name name) (with_key key) ps (λ p found. refl)

pub board-retitle : (b : Board) (title : List ℕ) → ExtendsBoard b (with_title title b)
board-retitle b title = record { number = refl; tasks = front-refl ExtendsTask task-refl b.tasks }

-- ---- worlds

pub extends-refl : (w : World) → Extends w w
extends-refl w = record { people = people-refl w.people; boards = front-refl ExtendsBoard board-refl w.boards }

pub extends-trans : (u v w : World) → Extends u v → Extends v w → Extends u w
extends-trans u v w first later =
    record {
      people = people-trans u.people v.people w.people first.people later.people;
      boards = front-trans ExtendsBoard board-trans u.boards v.boards w.boards first.boards later.boards;
    }

-- a board in the place of the one that it extends
pub extends-board : (w : World) (n : ℕ) (x b : Board) → find (has_number n) w.boards ≡ Some x → ExtendsBoard x b
    → IsFrontOf ExtendsBoard w.boards (change_board n (λ _. b) w.boards)
extends-board w n x b found extends =
    front-change ExtendsBoard board-refl (has_number n) (λ _. b) w.boards
    (λ y here. let is : Some x ≡ Some y = sym found ∙ here in let same : x ≡ y = cc in subst (λ (z : Board). ExtendsBoard z b) same extends)
