-- A plain task that goes last gives its own changes of rows and no others.
use Rattle.std.proofs.Common.{◌≡◌, ◌||◌, not, ℕ, suc, ◌+◌, ◌<◌, ◌≤◌, ◌==◌, nat_lt, Bool, true, false, true≢false, cond, List, [], ◌∷◌, ◌++◌, Option, Some, None, length, map, refl, sym, ◌∙◌, ap, arith, inl, inr}
use Rattle.std.specs.List.{list_any, position_from}
use Rattle.std.proofs.lemmas.Bool.{cases_Bool, eq-eqb, le-ltb, lt-ltb, ne_eqb}
use Rattle.std.proofs.lemmas.Iterator.Adapters.{position_from-zero}
use Rattle.std.proofs.lemmas.List.{append-nil, length_push, map-append}
use Rattle.std.proofs.lemmas.List.Folds.{list_any-append}
use Rattle.tb_task.specs.declared.task.Task.{Task}
use Rattle.tb_task.specs.TaskId.{made}
use Rattle.tb_json.specs.Stored.{stored_text}
use Rattle.tb_board.specs.declared.board.Board.{Board}
use Rattle.tb_board.specs.declared.change.Change.TheVariants.{PutTask}
use Rattle.tb_board.specs.Board.{is_on, lacks_depends, with_task}
use Rattle.tb_board.specs.Changing.{with_task_at}
use Rattle.tb_board.specs.Numbers.{free}
use Rattle.tb_board.specs.Statuses.{is_template}
use Rattle.tb_board.specs.Tasks.{has_id, ids, place_in}
use Rattle.tb_board.specs.TaskIndex.{IsLeastFree}
use Rattle.tb_board.proofs.Fresh.{free_is, on_ids}
use Rattle.tb_board.proofs.Indexed.{is_on-taken}
use Rattle.tb_sql.specs.declared.changes.RowChange.{RowChange}
use Rattle.tb_sql.specs.declared.changes.RowChange.TheVariants.{AddInstance, AddLink, AddTask, SetLow}
use Rattle.tb_rows.specs.Quick.{ArePutRows, is_plain}
use Rattle.tb_rows.specs.Rows.{from_one, instance_rows, link_row, link_rows, place_of, rows_from, task_row}
use Rattle.tb_rows.specs.Steps.{instance_template, kept_board, low_changes, new_task, task_changes}
use Rattle.tb_rows.proofs.QuickRows.{is_alone, kept_one, no_parent, no_template}

-- ---- the least free number with one more task

pub on_more : (b : Board) (t : Task) (id : ℕ) → is_on (with_task b t) id ≡ (is_on b id || (t.id == id))
on_more b t id = list_any-append (has_id id) b.tasks (t ∷ []) ∙ ap (λ q. is_on b id || q) (or_none (t.id == id))
  where
    or_none : (q : Bool) → (q || false) ≡ q
    or_none true = refl
    or_none false = refl

-- what is on a board is on it with one more task
pub on_still : (b : Board) (t : Task) (id : ℕ) → is_on b id ≡ true → is_on (with_task b t) id ≡ true
on_still b t id on = on_more b t id ∙ rw on refl

pub taken_before : (b : Board) (t : Task) (n : ℕ) → IsLeastFree (ids b.tasks) b.number n → (k : ℕ) → 1 ≤ k → k < n → is_on (with_task b t) (made b.number k) ≡ true
taken_before b t n least k from below = on_still b t (made b.number k) (sym (is_on-taken b (made b.number k)) ∙ least.taken k from below)

-- ---- rows behind those of the tasks before

rows_last : {A B : Type 0} (f : ℕ → A → List B) (n end : ℕ) (xs : List A) (x : A) → n + length xs ≡ end
    → ((i : ℕ) (y : A) → n ≤ i → i < end → f i y ≡ []) → rows_from f n (xs ++ x ∷ []) ≡ f end x
rows_last f n end [] x at none = let here : n ≡ end = omega (arith, at) in append-nil (f n x) ∙ ap (λ k. f k x) here
rows_last f n end (y ∷ ys) x at none =
    ap (λ l. l ++ rows_from f (n + 1) (ys ++ x ∷ [])) (none n y (omega arith) (omega (arith, at)))
    ∙ rows_last f (n + 1) end ys x (omega (arith, at)) (λ i z from below. none i z (omega (arith, from)) below)

-- ---- links to tasks that were there before

first_stays : (test : ℕ → Bool) (n : ℕ) (xs : List ℕ) (y : ℕ) → list_any test xs ≡ true → position_from test n (xs ++ y ∷ []) ≡ position_from test n xs
first_stays test n [] y there = absurd (true≢false (sym there))
first_stays test n (x ∷ xs) y there =
    elim (cases_Bool (test x)) [
      | inl here ↦ rw here refl
      | inr other ↦ let later : list_any test xs ≡ true = rw other at there in rw other (first_stays test (n + 1) xs y later)
    ]

place_stays : (all : List ℕ) (id q : ℕ) → list_any (λ i. i == q) all ≡ true → place_in (all ++ id ∷ []) q ≡ place_in all q
place_stays all id q there =
    position_from-zero (λ i. i == q) (all ++ id ∷ []) ∙ first_stays (λ i. i == q) 0 all id there ∙ sym (position_from-zero (λ i. i == q) all)

place_on : (b : Board) (t : Task) (q : ℕ) → is_on b q ≡ true → place_of (with_task b t).tasks q ≡ place_of b.tasks q
place_on b t q on =
    ap (λ all. from_one (place_in all q)) (map-append (λ (x : Task). x.id) b.tasks (t ∷ []))
    ∙ ap from_one (place_stays (ids b.tasks) t.id q (sym (on_ids q b.tasks) ∙ on))

one_there : (on : Bool) (others : Bool) → (not on || others) ≡ false → (on ≡ true) × (others ≡ false)
one_there true others h = (refl, h)
one_there false others h = absurd (cc)

links_stay : (b : Board) (t : Task) (p : ℕ) (is : List ℕ) → lacks_depends b is ≡ false → map (link_row (with_task b t) p) is ≡ map (link_row b p) is
links_stay b t p [] there = refl
links_stay b t p (i ∷ is) there =
    let parts = one_there (is_on b i) (lacks_depends b is) there in
    rw (place_on b t i parts.0, links_stay b t p is parts.1) refl

-- ---- the rows of a plain task that goes last

module _ (b : Board) (t : Task) (plain : is_plain t ≡ true) (there : lacks_depends b t.depends ≡ false) where
  abbrev end : ℕ
  end = length b.tasks

  abbrev more : Board
  more = with_task b t

  before_end : (i : ℕ) → i < end → (nat_lt i end ≡ true) × ((end == i) ≡ false)
  before_end i below = (lt-ltb i end below, ne_eqb end i (λ e. omega (arith, e, below)))

  no_templates : rows_from (instance_template more end (end ∷ [])) 0 more.tasks ≡ []
  no_templates =
      rows_last (instance_template more end (end ∷ [])) 0 end b.tasks t (omega arith)
      (λ i y from below. let off = before_end i below in rw (off.0, off.1) refl)
      ∙ no_parent more end (end ∷ []) end t (is_alone t plain)

  own_rows : rows_from (task_changes more end (end ∷ []) []) 0 more.tasks ≡ new_task more (end + 1) t
  own_rows =
      rows_last (task_changes more end (end ∷ []) []) 0 end b.tasks t (omega arith)
      (λ i y from below. let off = before_end i below in rw (off.0, off.1) refl)
      ∙ rw (le-ltb end end (omega arith)) refl

  low : low_changes end more ≡ SetLow b.number (free more) ∷ []
  low = let size : length more.tasks ≡ end + 1 = omega (arith, length_push b.tasks t) in rw (lt-ltb end (length more.tasks) (omega (arith, size))) refl

  new_same : new_task more (end + 1) t ≡ new_task b (end + 1) t
  new_same =
      let row : task_row more (end + 1) t ≡ task_row b (end + 1) t = rw (no_template t plain) refl in
      let none : instance_rows more (end + 1) t ≡ instance_rows b (end + 1) t = rw (is_alone t plain) refl in
      rw (row, none, links_stay b t (end + 1) t.depends there) refl

  push_kept : kept_board end more (PutTask b.number end t ∷ []) ≡ SetLow b.number (free more) ∷ new_task b (end + 1) t
  push_kept =
      kept_one end more end t
      ∙ ap (λ l. l ++ (rows_from (task_changes more end (end ∷ []) (rows_from (instance_template more end (end ∷ [])) 0 more.tasks ++ [])) 0 more.tasks ++ [])) low
      ∙ ap (λ l. SetLow b.number (free more) ∷ (rows_from (task_changes more end (end ∷ []) (l ++ [])) 0 more.tasks ++ [])) no_templates
      ∙ ap (λ l. SetLow b.number (free more) ∷ l) (append-nil (rows_from (task_changes more end (end ∷ []) []) 0 more.tasks) ∙ own_rows ∙ new_same)

  more_is : with_task_at end t b ≡ more
  more_is = rw (le-ltb end end (omega arith)) refl

  pub push_rows_are : (n : ℕ) → n ≡ free more → ArePutRows b end t (SetLow b.number n ∷ new_task b (end + 1) t)
  push_rows_are n is people =
      ap (λ k. SetLow b.number k ∷ new_task b (end + 1) t) is
      ∙ sym (append-nil (kept_board end (with_task_at end t b) (PutTask b.number end t ∷ []))
      ∙ ap (λ a. kept_board end a (PutTask b.number end t ∷ [])) more_is ∙ push_kept)
