-- The row of a place is that of the task at the place.
use Rattle.std.proofs.Common.{◌≡◌, ◌∙◌, ◌+◌, ◌<◌, ◌==◌, ◌&&◌, ◌++◌, ℕ, suc, zero, Bool, true, false, true≢false, List, [], ◌∷◌, Option, Some, None, Result, Ok, filter, find, slice_get, refl, sym, ap, ap₂, subst, arith, inl, inr}
use Rattle.std.specs.List.{AllByRecursion, flat_map}
use Rattle.std.specs.Option.{option_map}
use Rattle.std.proofs.lemmas.Bool.{cases_Bool, eq-eqb, eqb-true}
use Rattle.std.proofs.lemmas.List.{append-nil}
use Rattle.std.proofs.lemmas.List.Elements.{filter-append}
use Rattle.sqlite.specs.State.{HasCleanDisk, State as Database}
use Rattle.sqlite_keyed.proofs.ListLemmas.{all_weaker, filter_none}
use Rattle.tb_task.specs.TaskId.{IsRead}
use Rattle.tb_task.specs.declared.task.Task.{Task}
use Rattle.tb_board.specs.Good.{IsGood, IsSound}
use Rattle.tb_board.specs.declared.board.Board.{Board}
use Rattle.tb_board.specs.World.{find_board, has_number}
use Rattle.tb_calls.specs.Call.{State}
use Rattle.tb_json.specs.Stored.{stored_of}
use Rattle.tb_json.specs.declared.fault.JsonFault.{JsonFault}
use Rattle.tb_json.proofs.StoredLaws.{stored_of-stored_text}
use Rattle.tb_rows.proofs.OneOf.{none_found, one_found}
use Rattle.tb_rows.proofs.Joined.{AreNumberedFrom, numbered_from}
use Rattle.tb_rows.proofs.Lists.{differ}
use Rattle.tb_rows.proofs.ReadBoards.{own_tasks}
use Rattle.tb_rows.proofs.ReadTasks.{storable}
use Rattle.tb_rows.specs.Forms.{HasBoardForm, HasTaskForm}
use Rattle.tb_rows.specs.Rows.{board_tasks, rows_from, task_row}
use Rattle.tb_sql.specs.Changes.{is_task}
use Rattle.tb_sql_tables.specs.Content.{Content}
use Rattle.tb_sql_tables.specs.Found.{IsOneOf}
use Rattle.tb_sql_tables.specs.declared.rows.TaskRow.{TaskRow}
use Rattle.tb_lookup.specs.Reopening.{OfContent, OfState}
use Rattle.tb_lookup.specs.Stored.{AreRowsOf, IsStored}
use Rattle.tb_keeper.specs.Lending.{lent_row, row_behind, stored_row}
use Rattle.tb_keeper.specs.declared.lending.StoredRow.{StoredRow}

and_false : (a b : Bool) → b ≡ false → (a && b) ≡ false
and_false true b is = is
and_false false b is = refl

-- ---- on one board

none_after : (b : Board) (m p n : ℕ) (ts : List Task) → p < n → filter (is_task m p) (rows_from (λ place t. task_row b place t ∷ []) n ts) ≡ []
none_after b m p n [] below = refl
none_after b m p n (t ∷ ts) below = rw (and_false (b.number == m) (n == p) (differ n p (λ same. omega arith))) (none_after b m p (n + 1) ts (omega arith))

-- the row of the task at a place, if there is one
abbrev row_of : Board → ℕ → Option Task → List TaskRow
row_of b p None = []
row_of b p (Some t) = task_row b p t ∷ []

at_place : (b : Board) (m p n k : ℕ) (ts : List Task) → b.number ≡ m → p ≡ n + k → filter (is_task m p) (rows_from (λ place t. task_row b place t ∷ []) n ts) ≡ row_of b p (slice_get ts k)
at_place b m p n k [] on at = refl
at_place b m p n zero (t ∷ ts) on at =
    let here : n ≡ p = omega arith in
    rw (eq-eqb b.number m on, eq-eqb n p here) (ap (λ l. task_row b n t ∷ l) (none_after b m p (n + 1) ts (omega arith)) ∙ ap (λ q. task_row b q t ∷ []) here)
at_place b m p n (suc k) (t ∷ ts) on at =
    rw (and_false (b.number == m) (n == p) (differ n p (λ same. omega arith))) (at_place b m p (n + 1) k ts on (omega arith))

-- ---- on all boards

none_on : (m p : ℕ) (b : Board) → (b.number ≡ m → ⊥) → filter (is_task m p) (board_tasks b) ≡ []
none_on m p b other =
    filter_none (is_task m p) (board_tasks b)
    (all_weaker (λ (row : TaskRow). row.board ≡ b.number) (λ row. is_task m p row ≡ false) (λ row is. rw (differ row.board m (λ same. other (sym is ∙ same))) refl) (board_tasks b) (own_tasks b))

none_later : (m p n : ℕ) (bs : List Board) → m < n → AreNumberedFrom n bs → filter (is_task m p) (flat_map board_tasks bs) ≡ []
none_later m p n [] below numbered = refl
none_later m p n (b ∷ bs) below numbered =
    filter-append (is_task m p) (board_tasks b) (flat_map board_tasks bs)
    ∙ ap₂ ◌++◌ (none_on m p b (λ same. omega (arith, numbered.0))) (none_later m p (n + 1) bs (omega arith) numbered.1)

-- the row of the task of a board behind k others, if there is one
abbrev row_in : ℕ → Option Board → List TaskRow
row_in k None = []
row_in k (Some b) = row_of b (k + 1) (slice_get b.tasks k)

rows_are : (m k n : ℕ) (bs : List Board) → AreNumberedFrom n bs → filter (is_task m (k + 1)) (flat_map board_tasks bs) ≡ row_in k (find (has_number m) bs)
rows_are m k n [] numbered = refl
rows_are m k n (b ∷ bs) numbered = elim (cases_Bool (has_number m b)) [
  | inl here ↦
      let on = eqb-true b.number m here in
      rw here
      (filter-append (is_task m (k + 1)) (board_tasks b) (flat_map board_tasks bs)
      ∙ ap₂ ◌++◌ (at_place b m (k + 1) 1 k b.tasks on (omega arith)) (none_later m (k + 1) (n + 1) bs (omega (arith, on, numbered.0)) numbered.1)
      ∙ append-nil (row_of b (k + 1) (slice_get b.tasks k)))
  | inr other ↦
      rw other
      (filter-append (is_task m (k + 1)) (board_tasks b) (flat_map board_tasks bs)
      ∙ ap₂ ◌++◌ (none_on m (k + 1) b (λ same. true≢false (sym (eq-eqb b.number m same) ∙ other))) (rows_are m k (n + 1) bs numbered.1))
]

-- ---- what is found

at_get : {X : Type 0} (P : X → Type 0) (xs : List X) (k : ℕ) (x : X) → AllByRecursion P xs → slice_get xs k ≡ Some x → P x
at_get P [] k x all is = absurd (cc)
at_get P (y ∷ ys) zero x all is = let same : y ≡ x = cc in subst P same all.0
at_get P (y ∷ ys) (suc k) x all is = at_get P ys k x all.1 is

pub found_has : {X : Type 0} (P : X → Type 0) (p : X → Bool) (xs : List X) (x : X) → AllByRecursion P xs → find p xs ≡ Some x → P x
found_has P p [] x all is = absurd (cc)
found_has P p (y ∷ ys) x all is = elim (cases_Bool (p y)) [
  | inl here ↦ let same : Some y ≡ Some x = rw here at is in let it : y ≡ x = cc in subst P it all.0
  | inr other ↦ found_has P p ys x all.1 (rw other at is)
]

-- the row of a task behind k others
abbrev task_in : ℕ → Option Board → Option TaskRow
task_in k None = None
task_in k (Some b) = option_map (task_row b (k + 1)) (slice_get b.tasks k)

same_Ok : (x y : Task) → ◌≡◌ {A = Result Task JsonFault} (Ok x) (Ok y) → x ≡ y
same_Ok x y h = cc

-- its body is the text of a task with its identifier
record IsReadAs (r : TaskRow) : Type 0 where
  task : Task
  read : stored_of r.body ≡ Ok task
  own : task.id ≡ r.uuid

module _ (s : State) (c : Content) (rows : AreRowsOf s c) (m k : ℕ) where
  abbrev all : List TaskRow
  all = flat_map board_tasks s.world.boards

  -- the row that is found is that of the task
  row_found : (found : Option TaskRow) → IsOneOf (filter (is_task m (k + 1)) c.tasks) found → found ≡ task_in k (find_board s.world m)
  row_found found is = go (find_board s.world m) (rows_are m k 1 s.world.boards (numbered_from 1 s.world.boards rows.good.numbered))
    where
      on : (b : Board) (t : Option Task) → filter (is_task m (k + 1)) all ≡ row_of b (k + 1) t → found ≡ option_map (task_row b (k + 1)) t
      on b None none = none_found (is_task m (k + 1)) c.tasks all rows.same.tables.tasks found none is
      on b (Some t) one = one_found (is_task m (k + 1)) c.tasks all rows.same.tables.tasks found (task_row b (k + 1) t) one is

      go : (b : Option Board) → filter (is_task m (k + 1)) all ≡ row_in k b → found ≡ task_in k b
      go None none = none_found (is_task m (k + 1)) c.tasks all rows.same.tables.tasks found none is
      go (Some b) are = on b (slice_get b.tasks k) are

  none_stored : IsOneOf (filter (is_task m (k + 1)) c.tasks) None → None ≡ stored_row s.world m k
  none_stored is = go (find_board s.world m) (row_found None is)
    where
      on : (b : Board) (t : Option Task) → None ≡ option_map (task_row b (k + 1)) t → None ≡ option_map (lent_row b k) t
      on b None none = refl
      on b (Some t) none = absurd (cc)

      go : (b : Option Board) → None ≡ task_in k b → None ≡ row_behind b k
      go None none = refl
      go (Some b) none = on b (slice_get b.tasks k) none

  one_stored : IsRead → (r : TaskRow) (task : Task) → IsOneOf (filter (is_task m (k + 1)) c.tasks) (Some r) → stored_of r.body ≡ Ok task
      → Some (record { place = k + 1; task = task; mask = r.mask }) ≡ stored_row s.world m k
  one_stored law r task is read = go (find_board s.world m) refl (row_found (Some r) is)
    where
      on : (b : Board) → find_board s.world m ≡ Some b → (t : Option Task) → slice_get b.tasks k ≡ t → Some r ≡ option_map (task_row b (k + 1)) t
          → Some (record { place = k + 1; task = task; mask = r.mask }) ≡ option_map (lent_row b k) t
      on b at None at_t none = absurd (cc)
      on b at (Some t) at_t one =
          let row_is : r ≡ task_row b (k + 1) t = cc in
          let good = found_has IsGood (has_number m) s.world.boards b rows.good.good at in
          let form = found_has HasBoardForm (has_number m) s.world.boards b rows.form.boards at in
          let fits = storable t (at_get HasTaskForm b.tasks k t form.tasks at_t) (at_get IsSound b.tasks k t good.sound at_t) in
          let again = stored_of-stored_text law t fits in
          let task_is : task ≡ t = same_Ok task t (sym read ∙ ap (λ (x : TaskRow). stored_of x.body) row_is ∙ again) in
          λ i. let row : StoredRow = record { place = k + 1; task = task_is i; mask = (row_is i).mask } in Some row

      go : (b : Option Board) → find_board s.world m ≡ b → Some r ≡ task_in k b → Some (record { place = k + 1; task = task; mask = r.mask }) ≡ row_behind b k
      go None at none = absurd (cc)
      go (Some b) at one = on b at (slice_get b.tasks k) refl one

  -- a row that is found is the text of its task
  one_read : IsRead → (r : TaskRow) → IsOneOf (filter (is_task m (k + 1)) c.tasks) (Some r) → IsReadAs r
  one_read law r is = go (find_board s.world m) refl (row_found (Some r) is)
    where
      on : (b : Board) → find_board s.world m ≡ Some b → (t : Option Task) → slice_get b.tasks k ≡ t → Some r ≡ option_map (task_row b (k + 1)) t → IsReadAs r
      on b at None at_t none = absurd (cc)
      on b at (Some t) at_t one =
          let row_is : r ≡ task_row b (k + 1) t = cc in
          let good = found_has IsGood (has_number m) s.world.boards b rows.good.good at in
          let form = found_has HasBoardForm (has_number m) s.world.boards b rows.form.boards at in
          let fits = storable t (at_get HasTaskForm b.tasks k t form.tasks at_t) (at_get IsSound b.tasks k t good.sound at_t) in
          record { task = t; read = ap (λ (x : TaskRow). stored_of x.body) row_is ∙ stored_of-stored_text law t fits; own = sym (ap (λ (x : TaskRow). x.uuid) row_is) }

      go : (b : Option Board) → find_board s.world m ≡ b → Some r ≡ task_in k b → IsReadAs r
      go None at none = absurd (cc)
      go (Some b) at one = on b at (slice_get b.tasks k) refl one

-- ---- of what is stored

pub none_lent : (old new : Database) (m k p : ℕ) → p ≡ k + 1 → OfContent old new (λ c. IsOneOf (filter (is_task m p) c.tasks) None) → OfState old new (λ s. None ≡ stored_row s.world m k)
none_lent old new m k p at found clean s stored =
    none_stored s stored.content stored.rows m k (subst (λ q. IsOneOf (filter (is_task m q) stored.content.tasks) None) at (found clean stored.content stored.stands))

pub one_lent : IsRead → (old new : Database) (m k p : ℕ) (r : TaskRow) (task : Task) → p ≡ k + 1 → OfContent old new (λ c. IsOneOf (filter (is_task m p) c.tasks) (Some r)) → stored_of r.body ≡ Ok task
    → OfState old new (λ s. Some (record { place = p; task = task; mask = r.mask }) ≡ stored_row s.world m k)
one_lent law old new m k p r task at found read clean s stored =
    (λ i. let row : StoredRow = record { place = at i; task = task; mask = r.mask } in Some row)
    ∙ one_stored s stored.content stored.rows m k law r task (subst (λ q. IsOneOf (filter (is_task m q) stored.content.tasks) (Some r)) at (found clean stored.content stored.stands)) read

-- a row that is found is never refused
pub row_never : IsRead → (old new : Database) (m k p : ℕ) (r : TaskRow) → p ≡ k + 1 → OfContent old new (λ c. IsOneOf (filter (is_task m p) c.tasks) (Some r)) → ((task : Task) → stored_of r.body ≡ Ok task → task.id ≡ r.uuid → ⊥)
    → HasCleanDisk new → (s : State) → IsStored s old → ⊥
row_never law old new m k p r at found refused clean s stored =
    let it = one_read s stored.content stored.rows m k law r (subst (λ q. IsOneOf (filter (is_task m q) stored.content.tasks) (Some r)) at (found clean stored.content stored.stands)) in
    refused it.task it.read it.own
