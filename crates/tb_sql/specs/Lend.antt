-- Tasks that are lent one at a time.
use Rattle.std.specs.Prelude.{◌≡◌, ◌==◌, List, [], ◌∷◌, ◌++◌, map, filter, codes, ℕ, pos, Option, Some, None}
use Rattle.sqlite_value.specs.declared.value.Value.TheVariants.{Int}
use Rattle.sqlite_value.specs.Order.{Row}
use Rattle.sqlite_trees.specs.declared.store.Store.{Ghosts}
use Rattle.sqlite.specs.Given.{HasGiven}
use Rattle.sqlite.specs.Held.{Held, state}
use Rattle.tb_sql_tables.specs.declared.rows.TaskRow.{TaskRow}
use Rattle.tb_sql_tables.specs.Content.{Content, IsContent}
use Rattle.tb_sql_tables.specs.Found.{AreFound}
use Rattle.tb_sql_tables.specs.Read.{task_of}
use Rattle.tb_sql.specs.Changes.{IsTaskBefore}

abbrev pub tasks_text : List ℕ
tasks_text = codes "SELECT board, place, uuid, body, mask FROM task WHERE board = ?1 ORDER BY place"

module _ {S : Type 0} (g : Ghosts S) where
  -- the connection sees the content, and these of the board's tasks have been lent
  pub record HasLent (board : ℕ) (content : Content) (h : Held S)
      (lent : List TaskRow) : Type 0 where
    pub rows : List Row
    pub read : lent ≡ map task_of rows
    pub given : HasGiven g tasks_text (Int (pos board) ∷ []) h rows
    pub sees : IsContent content (state g h).now

  -- one more is lent, or those so far are all, in order of place
  abbrev pub LendsOn : ℕ → Content → Held S → List TaskRow → Option TaskRow → Type 0
  LendsOn board content new lent (Some task) = HasLent board content new (lent ++ task ∷ [])
  LendsOn board content new lent None =
      AreFound IsTaskBefore (filter (λ task. task.board == board) content.tasks) lent
