-- What is lent of the tasks of a board.
use Rattle.std.proofs.Common.{◌≡◌, ◌∙◌, ◌==◌, ℕ, pos, List, [], ◌∷◌, ◌++◌, map, refl, sym, ap, ap₂, subst, inl, inr, IsTrue}
use Rattle.std.specs.Prelude.{filter}
use Rattle.sqlite_value.specs.declared.value.Value.TheVariants.{Int}
use Rattle.sqlite_value.specs.Order.{Row}
use Rattle.sqlite_trees.specs.declared.store.Store.{Ghosts}
use Rattle.sqlite.specs.Listing.{understood}
use Rattle.sqlite.specs.State.{HasCleanDisk, IsUnchanged, Shown}
use Rattle.sqlite.specs.Given.{IsPlain, HasGiven, HasBegun}
use Rattle.sqlite.specs.Held.{Held, state}
use Rattle.sqlite.proofs.Callers.{begun_plain}
use Rattle.tb_sql_tables.specs.declared.rows.TaskRow.{TaskRow}
use Rattle.tb_sql_tables.specs.Content.{Content, IsContent, Stands}
use Rattle.tb_sql_tables.specs.Found.{AreFound}
use Rattle.tb_sql_tables.specs.Read.{task_of}
use Rattle.tb_sql_tables.proofs.Inside.{shown_open}
use Rattle.tb_sql.specs.Changes.{IsTaskBefore}
use Rattle.tb_sql.specs.Lend.{tasks_text, HasLent}
use Rattle.tb_sql.proofs.TaskRows.{select_tasks, tasks_plain}

-- at the end all have been lent
pub all_lent : {S : Type 0} (g : Ghosts S) (board : ℕ) (content : Content) (old new : Held S) (lent : List TaskRow) (had : HasLent g board content old lent)
    → Shown tasks_text (Int (pos board) ∷ []) (state g old) (state g new) had.rows → AreFound IsTaskBefore (filter (λ task. task.board == board) content.tasks) lent
all_lent g board content old new lent had shown =
    let finds = select_tasks (state g old) (state g new) board had.rows shown in
    subst (AreFound IsTaskBefore (filter (λ task. task.board == board) content.tasks)) (sym had.read) (finds.found content had.sees)

read_more : (rows : List Row) (row : Row) → map task_of (rows ++ row ∷ []) ≡ map task_of rows ++ task_of row ∷ []
read_more [] row = refl
read_more (r ∷ rows) row = ap (λ l. task_of r ∷ l) (read_more rows row)

pub one_more_lent : {S : Type 0} (g : Ghosts S) (board : ℕ) (content : Content) (old new : Held S) (lent : List TaskRow) (had : HasLent g board content old lent) (row : Row) (task : TaskRow)
    → task ≡ task_of row → HasGiven g tasks_text (Int (pos board) ∷ []) new (had.rows ++ row ∷ []) → IsUnchanged (state g old) (state g new) → HasLent g board content new (lent ++ task ∷ [])
one_more_lent g board content old new lent had row task is given same = record {
  rows = had.rows ++ row ∷ [];
  read = ap₂ (λ (l : List TaskRow) (t : TaskRow). l ++ t ∷ []) had.read is ∙ sym (read_more had.rows row);
  given = given;
  sees = subst (IsContent content) (sym same.0.now_is) had.sees;
}

-- at first nothing has been lent
pub none_lent : {S : Type 0} (g : Ghosts S) (board : ℕ) (content : Content) (old new : Held S) → HasCleanDisk (state g old) → Stands content (state g old) → HasBegun g tasks_text (Int (pos board) ∷ []) old new
    → HasLent g board content new []
none_lent g board content old new clean stands begun =
    let was_open : IsTrue (state g old).is_open = elim begun [ inl h ↦ h.1.0.was_open | inr h ↦ shown_open tasks_text _ (state g old) (state g new) _ h.1 ] in
    let sees = (stands.seen clean was_open).0 in
    let plain : IsPlain (understood old.schema tasks_text) = subst (λ s. IsPlain (understood s tasks_text)) (sym sees.schema) tasks_plain in
    let first = begun_plain g tasks_text (Int (pos board) ∷ []) old new plain begun in
    record { rows = []; read = refl; given = first.0; sees = subst (IsContent content) (sym first.1.0.now_is) sees }
