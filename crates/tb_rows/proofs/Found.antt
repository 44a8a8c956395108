-- A world is read in each content that has its rows.
use Rattle.std.proofs.Common.{◌≡◌, ◌+◌, ◌==◌, ◌<◌, ◌≤◌, Bool, List, [], ◌∷◌, Ok, Option, Some, filter, length, refl, ap, ap₂, ◌∙◌, subst, arith, IsPermutation}
use Rattle.std.specs.List.{AllByRecursion}
use Rattle.std.proofs.lemmas.List.Sorted.{IsPermutation-sym}
use Rattle.sqlite_trees.specs.Tree.{IsAscending}
use Rattle.sqlite_keyed.proofs.ListLemmas.{all_weaker, IsPermutation-filter}
use Rattle.tb_task.specs.TaskId.{IsRead}
use Rattle.tb_board.specs.Good.{IsGood}
use Rattle.tb_board.specs.declared.board.Board.{Board}
use Rattle.tb_board.specs.declared.world.World.{World}
use Rattle.tb_core.specs.GoodWorld.{IsGoodWorld, IsRoleIn}
use Rattle.tb_sql_tables.specs.Content.{Content}
use Rattle.tb_sql_tables.specs.Found.{AreFound, IsOneOf}
use Rattle.tb_sql_tables.specs.declared.rows.RoleRow.{RoleRow}
use Rattle.tb_sql_tables.specs.declared.rows.TaskRow.{TaskRow}
use Rattle.tb_sql_tables.specs.declared.rows.GoneRow.{GoneRow}
use Rattle.tb_sql_tables.specs.declared.rows.HorizonRow.{HorizonRow}
use Rattle.tb_sql.specs.Changes.{is_horizon, IsTaskBefore, IsGoneBefore}
use Rattle.tb_rows.specs.Rows.{world_rows, board_row, horizon_row, board_tasks, board_gone, HaveSameRows}
use Rattle.tb_rows.specs.Forms.{HasForm, HasBoardForm}
use Rattle.tb_rows.specs.Laws.{IsBoardRead, IsWorldRead}
use Rattle.tb_rows.specs.Reading.{people_in, board_of, roles_in}
use Rattle.tb_rows.proofs.Joined.{numbered_from}
use Rattle.tb_rows.proofs.OneOf.{one_found}
use Rattle.tb_rows.proofs.Orders.{GoneRise, IsOrdered}
use Rattle.tb_rows.proofs.ReadBoards.{FindsOwn, board_read, finds_own}
use Rattle.tb_rows.proofs.ReadPeople.{people_read, roles_read}
use Rattle.tb_rows.proofs.Rising.{people_rise, tasks_rise, boards_rise}
use Rattle.tb_rows.proofs.RoleRows.{roles_rise, role_rows_on, joined_roles}

-- the board's rows among all of a table are what is found on its number
own_found : {R : Type 0} (IsBefore : R → R → Type 0) (p : R → Bool) (all table own found : List R) → IsPermutation all table → filter p all ≡ own
    → IsAscending IsBefore own → AreFound IsBefore (filter p table) found → found ≡ own
own_found IsBefore p all table own found same own_is up are = are.in_order own (subst (λ l. IsPermutation l (filter p table)) own_is (IsPermutation-filter p all table same)) up

module _ (law : IsRead) (w : World) (c : Content) (same : HaveSameRows (world_rows w) c) where
  found_board : (b : Board) → FindsOwn (world_rows w).horizon (world_rows w).tasks (world_rows w).gone b → IsGood b → HasBoardForm b → GoneRise b
      → (horizon : Option HorizonRow) (tasks : List TaskRow) (gone : List GoneRow) → IsOneOf (filter (is_horizon b.number) c.horizon) horizon
      → AreFound IsTaskBefore (filter (λ (row : TaskRow). row.board == b.number) c.tasks) tasks → AreFound IsGoneBefore (filter (λ (row : GoneRow). row.board == b.number) c.gone) gone
      → board_of (board_row b) horizon tasks gone ≡ Ok b
  found_board b own good form rise horizon tasks gone h t g =
      ap (λ o. board_of (board_row b) o tasks gone) (one_found (is_horizon b.number) c.horizon (world_rows w).horizon (IsPermutation-sym _ _ same.horizon) horizon _ own.horizon_is h)
      ∙ ap₂ (board_of (board_row b) (Some (horizon_row b)))
      (own_found _ (λ (row : TaskRow). row.board == b.number) _ c.tasks (board_tasks b) tasks same.tasks own.tasks_are (tasks_rise b) t)
      (own_found _ (λ (row : GoneRow). row.board == b.number) _ c.gone (board_gone b) gone same.gone own.gone_are rise g)
      ∙ board_read law b good form

  boards_found : IsOrdered w → (bs : List Board) → AllByRecursion (FindsOwn (world_rows w).horizon (world_rows w).tasks (world_rows w).gone) bs → AllByRecursion IsGood bs → AllByRecursion HasBoardForm bs → AllByRecursion GoneRise bs
      → AllByRecursion (IsBoardRead w c) bs
  boards_found ordered [] own good forms rise = tt
  boards_found ordered (b ∷ bs) own good forms rise =
      let here : IsBoardRead w c b = record {
        board = found_board b own.0 good.0 forms.0 rise.0;
        roles = λ before rows are.
            ap (roles_in before) (own_found _ (λ (row : RoleRow). row.board == b.number) _ c.roles _ rows same.roles (role_rows_on b.number w.roles) (roles_rise b.number w.roles ordered.roles) are)
            ∙ roles_read before _;
      } in
      (here, boards_found ordered bs own.1 good.1 forms.1 rise.1)

  pub world_found : IsGoodWorld w → IsOrdered w → HasForm w → IsWorldRead w c
  world_found good ordered form =
      let numbered = numbered_from 1 w.boards good.numbered in
      record {
        people = λ rows are. ap (people_in []) (are.in_order _ same.people (people_rise w.people)) ∙ people_read [] w.people 1 refl form.people;
        boards = λ rows are. are.in_order _ same.boards (boards_rise 1 w.boards numbered);
        each = boards_found ordered w.boards (finds_own 1 w.boards numbered) good.good form.boards ordered.gone;
        roles =
            joined_roles 1 w.boards w.roles numbered
            (all_weaker (IsRoleIn w) (λ r. 1 ≤ r.board) (λ r is. is.from_board) w.roles good.roles)
            (all_weaker (IsRoleIn w) (λ r. r.board < 1 + length w.boards) (λ r is. omega (arith, is.to_board)) w.roles good.roles)
            ordered.roles;
      }
