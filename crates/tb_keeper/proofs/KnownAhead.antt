-- A board that is read without its row of how far ahead it looks.
use Rattle.std.proofs.Common.{◌≡◌, ◌∙◌, ◌⊎◌, ℕ, Bool, List, [], Option, None, Some, Result, Ok, Err, sym, subst, inl, inr}
use Rattle.std.specs.Prelude.{◌↔◌, IsTrue}
use Rattle.tb_values.specs.Outcome.{◌>>=◌}
use Rattle.tb_task.specs.declared.task.Task.{Task}
use Rattle.tb_rows.specs.AsStored.{AreAsStored}
use Rattle.tb_board.specs.Names.{read_title}
use Rattle.tb_board.specs.declared.board.Board.{Board}
use Rattle.tb_board.specs.declared.gone.Gone.{Gone}
use Rattle.tb_rows.specs.Outcome.{readable}
use Rattle.tb_rows.specs.Reading.{ahead_of, board_of, gone_in, tasks_in}
use Rattle.tb_rows.specs.declared.fault.ReopenFault.{ReopenFault}
use Rattle.tb_rows.specs.Rows.{horizon_row}
use Rattle.tb_sql_tables.specs.declared.rows.BoardRow.{BoardRow}
use Rattle.tb_sql_tables.specs.declared.rows.GoneRow.{GoneRow}
use Rattle.tb_sql_tables.specs.declared.rows.HorizonRow.{HorizonRow}
use Rattle.tb_sql_tables.specs.declared.rows.InstanceRow.{InstanceRow}
use Rattle.tb_sql_tables.specs.declared.rows.LinkRow.{LinkRow}
use Rattle.tb_sql_tables.specs.declared.rows.TaskRow.{TaskRow}
use Rattle.tb_keeper.specs.Auditing.{known_horizon}

same_Ok : {X : Type 0} (x y : X) → ◌≡◌ {A = Result X ReopenFault} (Ok x) (Ok y) → x ≡ y
same_Ok x y h = cc

abbrev read_parts : BoardRow → List GoneRow → Result (List ℕ) ReopenFault → Result ℕ ReopenFault → Result (List Task) ReopenFault → Result Board ReopenFault
read_parts row gone_rows title_read ahead_read tasks_read = do
  title ← title_read
  ahead ← ahead_read
  tasks ← tasks_read
  gone ← gone_in tasks [] gone_rows
  Ok (record { number = row.id; title = title; tasks = tasks; gone = gone; ahead = ahead })

-- however far it looks ahead, the board has the same tasks
pub same_tasks : (row : BoardRow) (h k : Option HorizonRow) (tasks : List TaskRow) (gone : List GoneRow) (r b : Board) → board_of row h tasks gone ≡ Ok r → board_of row k tasks gone ≡ Ok b → r.tasks ≡ b.tasks
same_tasks row h k task_rows gone_rows r b read_r read_b = go (readable (read_title row.title)) (ahead_of h) (ahead_of k) (tasks_in [] task_rows) read_r read_b
  where
    last : (title : List ℕ) (x y : ℕ) (tasks : List Task) (gone : Result (List Gone) ReopenFault)
        → (gone >>= λ g. Ok (let c : Board = record { number = row.id; title = title; tasks = tasks; gone = g; ahead = x } in c)) ≡ Ok r
        → (gone >>= λ g. Ok (let c : Board = record { number = row.id; title = title; tasks = tasks; gone = g; ahead = y } in c)) ≡ Ok b → r.tasks ≡ b.tasks
    last title x y tasks (Ok g) p q =
        let c : Board = record { number = row.id; title = title; tasks = tasks; gone = g; ahead = x } in
        let d : Board = record { number = row.id; title = title; tasks = tasks; gone = g; ahead = y } in
        let of_r : c ≡ r = same_Ok c r p in
        let of_b : d ≡ b = same_Ok d b q in
        sym (λ i. (of_r i).tasks) ∙ (λ i. (of_b i).tasks)
    last title x y tasks (Err e) p q = absurd (cc)

    go : (title : Result (List ℕ) ReopenFault) (x y : Result ℕ ReopenFault) (tasks : Result (List Task) ReopenFault) → read_parts row gone_rows title x tasks ≡ Ok r → read_parts row gone_rows title y tasks ≡ Ok b
        → r.tasks ≡ b.tasks
    go (Ok title) (Ok x) (Ok y) (Ok tasks) p q = last title x y tasks (gone_in tasks [] gone_rows) p q
    go (Ok title) (Ok x) (Ok y) (Err e) p q = absurd (cc)
    go (Ok title) (Ok x) (Err e) tasks p q = absurd (cc)
    go (Ok title) (Err e) y tasks p q = absurd (cc)
    go (Err e) x y tasks p q = absurd (cc)

-- what is told of the board that is read is told of the board with its row
pub tells_known : (row : BoardRow) (horizon : Option HorizonRow) (tasks : List TaskRow) (gone : List GoneRow) (links : List LinkRow) (instances : List InstanceRow) (r b : Board) (same : Bool)
    → board_of row (Some (known_horizon row.id horizon)) tasks gone ≡ Ok r → board_of row (Some (horizon_row b)) tasks gone ≡ Ok b → (horizon ≡ None) ⊎ (horizon ≡ Some (horizon_row b))
    → IsTrue same ↔ AreAsStored r row horizon tasks links instances → IsTrue same ↔ AreAsStored b row horizon tasks links instances
tells_known row horizon tasks gone links instances r b same read_r read_b (inl none) tells =
    (λ is. absurd (never r (tells.0 is).horizon_is), λ are. absurd (never b are.horizon_is))
  where
    never : (x : Board) → horizon ≡ Some (horizon_row x) → ⊥
    never x some = let no : None ≡ Some (horizon_row x) = sym none ∙ some in absurd (cc)
tells_known row horizon tasks gone links instances r b same read_r read_b (inr there) tells =
    let at : board_of row (Some (horizon_row b)) tasks gone ≡ Ok r = subst (λ o. board_of row (Some (known_horizon row.id o)) tasks gone ≡ Ok r) there read_r in
    let one : r ≡ b = same_Ok r b (sym at ∙ read_b) in
    subst (λ x. IsTrue same ↔ AreAsStored x row horizon tasks links instances) one tells
