-- One plain task that is put gives its own changes of rows and no others.
use Rattle.std.proofs.Common.{◌≡◌, not, ◌&&◌, is_some, ℕ, zero, suc, ◌+◌, ◌<◌, ◌≤◌, ◌==◌, nat_lt, Bool, true, false, cond, List, [], ◌∷◌, ◌++◌, Option, Some, None, get_or, length, map, set, refl, sym, ◌∙◌, ap, subst, arith}
use Rattle.std.proofs.lemmas.Bool.{eq-eqb, eqb-true, le-ltb, lt-ltb, ne_eqb}
use Rattle.std.proofs.lemmas.List.{append-nil, length-set}
use Rattle.tb_task.specs.declared.task.Task.{Task}
use Rattle.tb_board.specs.declared.board.Board.{Board}
use Rattle.tb_board.specs.declared.change.Change.{Change}
use Rattle.tb_board.specs.declared.change.Change.TheVariants.{PutTask}
use Rattle.tb_board.specs.Tasks.{ids, place_in}
use Rattle.tb_board.specs.Changing.{with_task_at}
use Rattle.tb_board.specs.Statuses.{is_template}
use Rattle.tb_json.specs.Stored.{stored_text}
use Rattle.tb_sql.specs.declared.changes.RowChange.{RowChange}
use Rattle.tb_sql.specs.declared.changes.RowChange.TheVariants.{AddLink, RemoveLinks, SetText}
use Rattle.tb_board.specs.Changing.{changed}
use Rattle.tb_rows.specs.Part.{AreRowsFor, part_after}
use Rattle.tb_rows.specs.Quick.{AreAllRows, ArePutRows, is_plain}
use Rattle.tb_rows.specs.Rows.{from_one, link_row, link_rows, mask_cell, place_of, rows_from}
use Rattle.tb_rows.specs.Steps.{instance_template, is_changed, kept_board, low_changes, put_task, task_changes, template_place, Leads}
use Rattle.tb_rows.proofs.Parts.{part_leads}

-- ---- rows at one place alone

pub no_rows : {A B : Type 0} (f : ℕ → A → List B) (n end : ℕ) (xs : List A) → n + length xs ≤ end
    → ((i : ℕ) (x : A) → n ≤ i → i < end → f i x ≡ []) → rows_from f n xs ≡ []
no_rows f n end [] fits none = refl
no_rows f n end (x ∷ xs) fits none =
    ap (λ l. l ++ rows_from f (n + 1) xs) (none n x (omega arith) (omega (arith, fits)))
    ∙ no_rows f (n + 1) end xs (omega (arith, fits)) (λ i y from below. none i y (omega (arith, from)) below)

set_rows : {A B : Type 0} (f : ℕ → A → List B) (n end place : ℕ) (xs : List A) (x : A) → place < length xs → n + length xs ≤ end
    → ((i : ℕ) (y : A) → n ≤ i → i < end → (n + place ≡ i → ⊥) → f i y ≡ []) → rows_from f n (set xs place x) ≡ f (n + place) x
set_rows f n end place [] x within fits none = absurd (omega (arith, within))
set_rows f n end zero (y ∷ ys) x within fits none =
    let first : n ≡ n + 0 = omega arith in
    let rest = no_rows f (n + 1) end ys (omega (arith, fits)) (λ i z from below. none i z (omega (arith, from)) below (λ same. omega (arith, same, from))) in
    ap (λ l. f n x ++ l) rest ∙ append-nil (f n x) ∙ ap (λ k. f k x) first
set_rows f n end (suc place) (y ∷ ys) x within fits none =
    let sum : n + 1 + place ≡ n + suc place = omega arith in
    ap (λ l. l ++ rows_from f (n + 1) (set ys place x)) (none n y (omega arith) (omega (arith, fits)) (λ same. omega (arith, same)))
    ∙ set_rows f (n + 1) end place ys x (omega (arith, within)) (omega (arith, fits)) (λ i z from below apart. none i z (omega (arith, from)) below (λ same. apart (omega (arith, same, sum))))
    ∙ ap (λ k. f k x) sum

-- ---- a plain task

pub is_alone : (t : Task) → is_plain t ≡ true → t.parent ≡ None
is_alone t plain = alone t.parent _ plain
  where
    alone : (o : Option ℕ) (q : Bool) → (not (is_some o) && q) ≡ true → o ≡ None
    alone None q h = refl
    alone (Some id) q h = absurd (cc)

pub no_template : (t : Task) → is_plain t ≡ true → is_template t ≡ false
no_template t plain = none (is_some t.parent) (is_some t.recur) plain
  where
    none : (p r : Bool) → (not p && not r) ≡ true → (r && not p) ≡ false
    none true r h = absurd (cc)
    none false true h = absurd (cc)
    none false false h = refl

pub no_parent : (a : Board) (old : ℕ) (put : List ℕ) (i : ℕ) (t : Task) → t.parent ≡ None → instance_template a old put i t ≡ []
no_parent a old put i t alone = ap (λ o. cond (is_changed old put i) (template_place a o) []) alone ∙ either (is_changed old put i)
  where
    either : (q : Bool) → cond {A = List ℕ} q [] [] ≡ []
    either true = refl
    either false = refl

-- ---- the changes of rows of a board on which one task is put

abbrev one_put : ℕ → Board → ℕ → List RowChange
one_put old a place =
    low_changes old a ++ (rows_from (task_changes a old (place ∷ []) (rows_from (instance_template a old (place ∷ [])) 0 a.tasks ++ [])) 0 a.tasks ++ [])

pub kept_one : (old : ℕ) (a : Board) (place : ℕ) (t : Task) → kept_board old a (PutTask a.number place t ∷ []) ≡ one_put old a place
kept_one old a place t = rw (eq-eqb a.number a.number refl) refl

same_links : (a b : Board) (p : ℕ) (is : List ℕ) → a.number ≡ b.number → ids a.tasks ≡ ids b.tasks → map (link_row a p) is ≡ map (link_row b p) is
same_links a b p [] number same = refl
same_links a b p (i ∷ is) number same =
    let place : place_of a.tasks i ≡ place_of b.tasks i = ap (λ l. from_one (place_in l i)) same in
    rw (number, place, same_links a b p is number same) refl

-- a task that is no template is put in the same way where the identifiers are the same
put_same : (b : Board) (ts : List Task) (p : ℕ) (t : Task) → is_template t ≡ false → ids ts ≡ ids b.tasks → put_task (record b { tasks = ts }) p t ≡ put_task b p t
put_same b ts p t plain same =
    let a : Board = record b { tasks = ts } in
    let cell : mask_cell a t ≡ mask_cell b t = rw plain refl in
    ap (λ m. SetText b.number p (stored_text t) m ∷ RemoveLinks b.number p ∷ map AddLink (link_rows a p t)) cell
    ∙ ap (λ l. SetText b.number p (stored_text t) (mask_cell b t) ∷ RemoveLinks b.number p ∷ map AddLink l) (same_links a b p t.depends refl same)

ids_set : (ts : List Task) (place : ℕ) (t s : Task) → place < length ts → s ≡ get_or ts place s → s.id ≡ t.id → ids (set ts place t) ≡ ids ts
ids_set [] place t s within at same = absurd (omega (arith, within))
ids_set (u ∷ us) zero t s within at same = ap (λ id. id ∷ ids us) (sym same ∙ ap (λ (x : Task). x.id) at)
ids_set (u ∷ us) (suc place) t s within at same = ap (λ l. u.id ∷ l) (ids_set us place t s (omega (arith, within)) at same)

module _ (b : Board) (place : ℕ) (t s : Task) (within : place < length b.tasks) (plain : is_plain t ≡ true) (at : s ≡ get_or b.tasks place s) (same : s.id ≡ t.id) where
  abbrev set_board : Board
  set_board = record b { tasks = set b.tasks place t }

  size : length set_board.tasks ≡ length b.tasks
  size = length-set b.tasks place t

  other_place : (i : ℕ) → i < length b.tasks → (0 + place ≡ i → ⊥) → (nat_lt i (length b.tasks) ≡ true) × ((place == i) ≡ false)
  other_place i below apart = (lt-ltb i (length b.tasks) below, ne_eqb place i (λ e. apart (omega (arith, e))))

  no_templates : rows_from (instance_template set_board (length b.tasks) (place ∷ [])) 0 set_board.tasks ≡ []
  no_templates =
      set_rows (instance_template set_board (length b.tasks) (place ∷ [])) 0 (length b.tasks) place b.tasks t within (omega arith)
      (λ i y from below apart. let off = other_place i below apart in rw (off.0, off.1) refl)
      ∙ no_parent set_board (length b.tasks) (place ∷ []) (0 + place) t (is_alone t plain)

  own_rows : rows_from (task_changes set_board (length b.tasks) (place ∷ []) []) 0 set_board.tasks ≡ put_task set_board (place + 1) t
  own_rows =
      let here : 0 + place ≡ place = omega arith in
      set_rows (task_changes set_board (length b.tasks) (place ∷ []) []) 0 (length b.tasks) place b.tasks t within (omega arith)
      (λ i y from below apart. let off = other_place i below apart in rw (off.0, off.1) refl)
      ∙ ap (λ i. task_changes set_board (length b.tasks) (place ∷ []) [] i t) here
      ∙ rw (lt-ltb place (length b.tasks) within, eq-eqb place place refl) refl

  no_low : low_changes (length b.tasks) set_board ≡ []
  no_low = rw (le-ltb (length b.tasks) (length set_board.tasks) (omega (arith, size))) refl

  set_kept : kept_board (length b.tasks) set_board (PutTask b.number place t ∷ []) ≡ put_task b (place + 1) t
  set_kept =
      kept_one (length b.tasks) set_board place t
      ∙ ap (λ l. l ++ (rows_from (task_changes set_board (length b.tasks) (place ∷ []) (rows_from (instance_template set_board (length b.tasks) (place ∷ [])) 0 set_board.tasks ++ [])) 0 set_board.tasks ++ [])) no_low
      ∙ ap (λ l. rows_from (task_changes set_board (length b.tasks) (place ∷ []) (l ++ [])) 0 set_board.tasks ++ []) no_templates
      ∙ append-nil (rows_from (task_changes set_board (length b.tasks) (place ∷ []) []) 0 set_board.tasks)
      ∙ own_rows
      ∙ put_same b (set b.tasks place t) (place + 1) t (no_template t plain) (ids_set b.tasks place t s within at same)

  set_board_is : with_task_at place t b ≡ set_board
  set_board_is = rw (lt-ltb place (length b.tasks) within) refl

  pub set_rows_are : ArePutRows b place t (put_task b (place + 1) t)
  set_rows_are people =
      sym (append-nil (kept_board (length b.tasks) (with_task_at place t b) (PutTask b.number place t ∷ []))
      ∙ ap (λ a. kept_board (length b.tasks) a (PutTask b.number place t ∷ [])) set_board_is ∙ set_kept)

-- ---- rows that are those of the part

pub all_are : (people : ℕ) (b : Board) (cs : List Change) (rows : List RowChange) → AreAllRows b cs rows → AreRowsFor people (Some (part_after cs b)) cs rows
all_are people b cs rows all =
    record {
      leads = λ w of. subst (λ xs. Leads xs w (changed w cs)) (sym (all people)) (part_leads w people (Some (part_after cs b)) cs of);
      steps = λ few small. all people;
    }

-- a test of two identifiers that fails
pub same_id : (a b : ℕ) (differ : Bool) → differ ≡ not (a == b) → differ ≡ false → a ≡ b
same_id a b differ is off = eqb-true a b (on (a == b) (sym is ∙ off))
  where
    on : (q : Bool) → not q ≡ false → q ≡ true
    on true h = refl
    on false h = absurd (cc)
