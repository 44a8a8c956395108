-- Changes that have their forms leave a world that has.
use Rattle.std.proofs.Common.{ℕ, suc, zero, Bool, true, false, cond, List, [], ◌∷◌, ◌++◌, refl, length}
use Rattle.std.specs.Prelude.{nat_lt, slice_set, filter}
use Rattle.std.specs.List.{AllByRecursion}
use Rattle.tb_task.specs.declared.task.Task.{Task}
use Rattle.tb_task.specs.declared.extra.Extra.{Extra}
use Rattle.tb_task.specs.Ranges.{IsNamedExtra}
use Rattle.tb_task.specs.Storable.{IsStorable, IsStorableExtra}
use Rattle.tb_board.specs.declared.change.Change.{Change}
use Rattle.tb_board.specs.declared.change.Change.TheVariants.{PutTask, AddPerson, SetKey, AddBoard, SetTitle, SetRole, SetGone, TakeGone, SetAhead}
use Rattle.tb_board.specs.declared.world.World.{World}
use Rattle.tb_board.specs.Changing.{changed, changed_by, put, with_ahead, with_gone, with_key, with_task_at, with_title, without_gone}
use Rattle.tb_board.specs.First.{change_first}
use Rattle.tb_board.specs.World.{has_name, has_number}
use Rattle.tb_rows.specs.Forms.{HasBoardForm, HasForm, HasMark, HasPersonForm, HasTaskForm}
use Rattle.tb_keeper.specs.Forms.{HasChangeForm}

-- a task that a board takes has its form
pub storable_form : (t : Task) → IsStorable t → HasTaskForm t
storable_form t storable = record {
  moments = storable.moments;
  links = record { id = storable.id; parent = storable.parent; imask = storable.imask; depends = storable.depends; links = storable.links };
  texts = record { project = storable.project; recur = storable.recur; annotations = storable.annotations; tags = storable.tags };
  extras = named t.extras storable.extras;
  names = storable.names;
}
  where
    named : (es : List Extra) → AllByRecursion IsStorableExtra es → AllByRecursion IsNamedExtra es
    named [] all = tt
    named (e ∷ es) all = (record { named = all.0.named; value = all.0.value }, named es all.1)

all_pushed : {X : Type 0} (P : X → Type 0) (xs : List X) (x : X) → AllByRecursion P xs → P x → AllByRecursion P (xs ++ x ∷ [])
all_pushed P [] x all last = (last, tt)
all_pushed P (y ∷ xs) x all last = (all.0, all_pushed P xs x all.1 last)

all_set : {X : Type 0} (P : X → Type 0) (xs : List X) (place : ℕ) (x : X) → AllByRecursion P xs → P x → AllByRecursion P (slice_set xs place x)
all_set P [] place x all here = tt
all_set P (y ∷ xs) zero x all here = (here, all.1)
all_set P (y ∷ xs) (suc place) x all here = (all.0, all_set P xs place x all.1 here)

all_left : {X : Type 0} (P : X → Type 0) (test : X → Bool) (xs : List X) → AllByRecursion P xs → AllByRecursion P (filter test xs)
all_left P test [] all = tt
all_left P test (x ∷ xs) all = elim (test x) as (λ b. AllByRecursion P (cond b (x ∷ filter test xs) (filter test xs))) [
  | true ↦ (all.0, all_left P test xs all.1)
  | false ↦ all_left P test xs all.1
]

all_put : (ts : List Task) (place : ℕ) (t : Task) → AllByRecursion HasTaskForm ts → HasTaskForm t → AllByRecursion HasTaskForm (put ts place t)
all_put ts place t all form = elim (nat_lt place (length ts)) as (λ b. AllByRecursion HasTaskForm (cond b (slice_set ts place t) (ts ++ t ∷ []))) [
  | true ↦ all_set HasTaskForm ts place t all form
  | false ↦ all_pushed HasTaskForm ts t all form
]

one_changed : {X : Type 0} (P : X → Type 0) (test : X → Bool) (f : X → X) → ((x : X) → P x → P (f x)) → (xs : List X) → AllByRecursion P xs → AllByRecursion P (change_first test f xs)
one_changed P test f keeps [] all = tt
one_changed P test f keeps (x ∷ xs) all = elim (test x) as (λ c. AllByRecursion P (cond c (f x ∷ xs) (x ∷ change_first test f xs))) [
  | true ↦ (keeps x all.0, all.1)
  | false ↦ (all.0, one_changed P test f keeps xs all.1)
]

change_kept : (w : World) (c : Change) → HasForm w → HasChangeForm c → HasForm (changed_by w c)
change_kept w (PutTask n place t) form has = record {
  people = form.people;
  boards = one_changed HasBoardForm (has_number n) (with_task_at place t) (λ b own. record { title = own.title; tasks = all_put b.tasks place t own.tasks has; gone = own.gone; ahead = own.ahead }) w.boards form.boards;
}
change_kept w (AddPerson name key) form has = record {
  people = all_pushed HasPersonForm w.people _ form.people (record { name = has.0; key = has.1 });
  boards = form.boards;
}
change_kept w (SetKey name key) form has = record {
  people = one_changed HasPersonForm (has_name name) (with_key key) (λ p own. record { name = own.name; key = has }) w.people form.people;
  boards = form.boards;
}
change_kept w (AddBoard n title) form has = record {
  people = form.people;
  boards = all_pushed HasBoardForm w.boards _ form.boards (record { title = has; tasks = tt; gone = tt; ahead = refl });
}
change_kept w (SetTitle n title) form has = record {
  people = form.people;
  boards = one_changed HasBoardForm (has_number n) (with_title title) (λ b own. record { title = has; tasks = own.tasks; gone = own.gone; ahead = own.ahead }) w.boards form.boards;
}
change_kept w (SetRole n person role) form has = record { people = form.people; boards = form.boards }
change_kept w (SetGone n g) form has = record {
  people = form.people;
  boards = one_changed HasBoardForm (has_number n) (with_gone g) (λ b own. record { title = own.title; tasks = own.tasks; gone = all_pushed HasMark b.gone g own.gone has; ahead = own.ahead }) w.boards form.boards;
}
change_kept w (TakeGone n id k) form has = record {
  people = form.people;
  boards = one_changed HasBoardForm (has_number n) (without_gone id k) (λ b own. record { title = own.title; tasks = own.tasks; gone = all_left HasMark _ b.gone own.gone; ahead = own.ahead }) w.boards form.boards;
}
change_kept w (SetAhead n ahead) form has = record {
  people = form.people;
  boards = one_changed HasBoardForm (has_number n) (with_ahead ahead) (λ b own. record { title = own.title; tasks = own.tasks; gone = own.gone; ahead = has }) w.boards form.boards;
}

pub changes_kept : (w : World) (cs : List Change) → HasForm w → AllByRecursion HasChangeForm cs → HasForm (changed w cs)
changes_kept w [] form all = form
changes_kept w (c ∷ cs) form all = changes_kept (changed_by w c) cs (change_kept w c form all.0) all.1
