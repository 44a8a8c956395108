-- What is found on a connection is of the board that stands there.
use Rattle.std.proofs.Common.{◌≡◌, ◌∙◌, ◌==◌, ℕ, List, ◌++◌, Option, Result, Ok, Err, filter, sym, ap, subst}
use Rattle.sqlite.specs.State.{State as Database}
use Rattle.tb_board.specs.declared.board.Board.{Board}
use Rattle.tb_board.specs.declared.world.RoleOn.{RoleOn}
use Rattle.tb_rows.specs.declared.fault.ReopenFault.{ReopenFault}
use Rattle.tb_rows.specs.declared.fault.ReopenFault.TheVariants.{NotRows}
use Rattle.tb_rows.specs.Laws.{roles_on}
use Rattle.tb_rows.specs.Reading.{board_of, roles_in}
use Rattle.tb_rows.specs.Rows.{board_row}
use Rattle.tb_sql.specs.Changes.{is_horizon, IsGoneBefore, IsRoleBefore, IsTaskBefore}
use Rattle.tb_sql.specs.Opening.{IsAsBefore}
use Rattle.tb_sql.proofs.Opened.{stands_again}
use Rattle.tb_sql_tables.specs.declared.rows.BoardRow.{BoardRow}
use Rattle.tb_sql_tables.specs.declared.rows.GoneRow.{GoneRow}
use Rattle.tb_sql_tables.specs.declared.rows.HorizonRow.{HorizonRow}
use Rattle.tb_sql_tables.specs.declared.rows.RoleRow.{RoleRow}
use Rattle.tb_sql_tables.specs.declared.rows.TaskRow.{TaskRow}
use Rattle.tb_sql_tables.specs.Content.{AreRows, IsContent}
use Rattle.tb_sql_tables.specs.Found.{AreFound, IsOneOf}
use Rattle.tb_lookup.specs.Reopening.{OfBoard, OfContent}

same_Ok : {X : Type 0} (x y : X) → ◌≡◌ {A = Result X ReopenFault} (Ok x) (Ok y) → x ≡ y
same_Ok x y h = cc

pub board_read : (old ahead mid new : Database) (row : BoardRow) (horizon : Option HorizonRow) (tasks : List TaskRow) (gone : List GoneRow) (b : Board)
    → OfContent old ahead (λ content. IsOneOf (filter (is_horizon row.id) content.horizon) horizon) → OfContent ahead mid (λ content. AreFound IsTaskBefore (filter (λ (r : TaskRow). r.board == row.id) content.tasks) tasks)
    → OfContent mid new (λ content. AreFound IsGoneBefore (filter (λ (r : GoneRow). r.board == row.id) content.gone) gone) → IsAsBefore old ahead → IsAsBefore ahead mid → IsAsBefore mid new
    → board_of row horizon tasks gone ≡ Ok b
    → OfBoard old new (λ w d. row ≡ board_row d → b ≡ d)
board_read old ahead mid new row horizon tasks gone b found_horizon found_tasks found_gone one two three is clean w content d read stands row_is =
    let at_ahead = stands_again (IsContent content) (AreRows content) old ahead stands one in
    let at_mid = stands_again (IsContent content) (AreRows content) ahead mid at_ahead two in
    let own_horizon = subst (λ n. IsOneOf (filter (is_horizon n) content.horizon) horizon) (ap (λ (r : BoardRow). r.id) row_is) (found_horizon (two.clean (three.clean clean)) content stands) in
    let number : row.id ≡ d.number = ap (λ (r : BoardRow). r.id) row_is in
    let own_tasks = subst (λ n. AreFound IsTaskBefore (filter (λ (r : TaskRow). r.board == n) content.tasks) tasks) number (found_tasks (three.clean clean) content at_ahead) in
    let own_gone = subst (λ n. AreFound IsGoneBefore (filter (λ (r : GoneRow). r.board == n) content.gone) gone) number (found_gone clean content at_mid) in
    same_Ok b d (sym is ∙ ap (λ x. board_of x horizon tasks gone) row_is ∙ read.board horizon tasks gone own_horizon own_tasks own_gone)

-- they are never what no world has
pub board_never : (old ahead mid new : Database) (row : BoardRow) (horizon : Option HorizonRow) (tasks : List TaskRow) (gone : List GoneRow)
    → OfContent old ahead (λ content. IsOneOf (filter (is_horizon row.id) content.horizon) horizon) → OfContent ahead mid (λ content. AreFound IsTaskBefore (filter (λ (r : TaskRow). r.board == row.id) content.tasks) tasks)
    → OfContent mid new (λ content. AreFound IsGoneBefore (filter (λ (r : GoneRow). r.board == row.id) content.gone) gone) → IsAsBefore old ahead → IsAsBefore ahead mid → IsAsBefore mid new
    → board_of row horizon tasks gone ≡ Err NotRows
    → OfBoard old new (λ w d. row ≡ board_row d → ⊥)
board_never old ahead mid new row horizon tasks gone found_horizon found_tasks found_gone one two three is clean w content d read stands row_is =
    let at_ahead = stands_again (IsContent content) (AreRows content) old ahead stands one in
    let at_mid = stands_again (IsContent content) (AreRows content) ahead mid at_ahead two in
    let number : row.id ≡ d.number = ap (λ (r : BoardRow). r.id) row_is in
    let own_horizon = subst (λ n. IsOneOf (filter (is_horizon n) content.horizon) horizon) number (found_horizon (two.clean (three.clean clean)) content stands) in
    let own_tasks = subst (λ n. AreFound IsTaskBefore (filter (λ (r : TaskRow). r.board == n) content.tasks) tasks) number (found_tasks (three.clean clean) content at_ahead) in
    let own_gone = subst (λ n. AreFound IsGoneBefore (filter (λ (r : GoneRow). r.board == n) content.gone) gone) number (found_gone clean content at_mid) in
    let own : board_of row horizon tasks gone ≡ Ok d = ap (λ x. board_of x horizon tasks gone) row_is ∙ read.board horizon tasks gone own_horizon own_tasks own_gone in
    let both : Err NotRows ≡ Ok d = sym is ∙ own in
    cc

pub roles_read : (old new : Database) (n : ℕ) (before later : List RoleOn) (rows : List RoleRow) → OfContent old new (λ content. AreFound IsRoleBefore (filter (λ (r : RoleRow). r.board == n) content.roles) rows)
    → roles_in before rows ≡ Ok later → OfBoard old new (λ w d. n ≡ d.number → later ≡ before ++ roles_on w d)
roles_read old new n before later rows found is clean w content d read stands number =
    same_Ok later (before ++ roles_on w d) (sym is ∙ read.roles before rows (subst (λ k. AreFound IsRoleBefore (filter (λ (r : RoleRow). r.board == k) content.roles) rows) number (found clean content stands)))
