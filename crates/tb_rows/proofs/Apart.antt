-- Two worlds that are read in one content are one.
use Rattle.std.proofs.Common.{◌≡◌, ℕ, ◌==◌, List, [], ◌∷◌, ◌++◌, Result, Ok, Option, Some, filter, map, refl, sym, ap, ap₂, ◌∙◌, subst, arith, inl, inr}
use Rattle.std.specs.List.{AllByRecursion, flat_map}
use Rattle.std.proofs.lemmas.List.Sorted.{IsPermutation-refl}
use Rattle.sqlite_trees.specs.Tree.{IsAscending}
use Rattle.tb_task.specs.TaskId.{IsRead}
use Rattle.tb_board.specs.declared.board.Board.{Board}
use Rattle.tb_board.specs.declared.world.World.{World}
use Rattle.tb_core.specs.GoodWorld.{IsGoodWorld}
use Rattle.tb_sql_tables.specs.Content.{Content}
use Rattle.tb_sql_tables.specs.Found.{AreFound, IsOneOf}
use Rattle.tb_sql_tables.specs.declared.rows.BoardRow.{BoardRow}
use Rattle.tb_sql_tables.specs.declared.rows.RoleRow.{RoleRow}
use Rattle.tb_sql_tables.specs.declared.rows.TaskRow.{TaskRow}
use Rattle.tb_sql_tables.specs.declared.rows.GoneRow.{GoneRow}
use Rattle.tb_sql_tables.specs.declared.rows.HorizonRow.{HorizonRow}
use Rattle.tb_sql.specs.Changes.{is_horizon, IsPersonBefore, IsBoardBefore, IsRoleBefore, IsTaskBefore, IsGoneBefore}
use Rattle.tb_rows.specs.Rows.{world_rows, board_row, horizon_row, role_row, board_tasks, board_gone, HaveSameRows}
use Rattle.tb_rows.specs.Forms.{HasForm}
use Rattle.tb_rows.specs.Laws.{roles_on, IsBoardRead}
use Rattle.tb_rows.specs.Reading.{board_of}
use Rattle.tb_rows.specs.declared.fault.ReopenFault.{ReopenFault}
use Rattle.tb_rows.proofs.Found.{world_found}
use Rattle.tb_rows.proofs.Joined.{numbered_from}
use Rattle.tb_rows.proofs.Lists.{one_order}
use Rattle.tb_rows.proofs.Orders.{GoneRise, IsOrdered}
use Rattle.tb_rows.proofs.ReadBoards.{FindsOwn, finds_own}
use Rattle.tb_rows.proofs.Rising.{people_rise, tasks_rise, boards_rise}
use Rattle.tb_rows.proofs.RoleRows.{roles_rise, role_rows_on}

same_Ok : {X : Type 0} (x y : X) → ◌≡◌ {A = Result X ReopenFault} (Ok x) (Ok y) → x ≡ y
same_Ok x y h = cc

-- ---- what can be found in a content

-- rows in order are found among themselves
found_itself : {R : Type 0} (IsBefore : R → R → Type 0) → ((x y : R) → IsBefore x y → IsBefore y x → ⊥) → (rows : List R) → IsAscending IsBefore rows → AreFound IsBefore rows rows
found_itself IsBefore one_way rows up = record {
  same = IsPermutation-refl rows;
  in_order = λ ordered same rise. sym (one_order IsBefore one_way ordered rows same rise up);
}

gone_one_way : (a b : GoneRow) → IsGoneBefore a b → IsGoneBefore b a → ⊥
gone_one_way a b (inl p) (inl q) = omega arith
gone_one_way a b (inl p) (inr q) = omega (arith, q.0)
gone_one_way a b (inr p) (inl q) = omega (arith, p.0)
gone_one_way a b (inr p) (inr q) = omega (arith, p.1, q.1)

-- what is found on a number
record HasFound (c : Content) (n : ℕ) : Type 0 where
  horizon : Option HorizonRow
  horizon_found : IsOneOf (filter (is_horizon n) c.horizon) horizon
  tasks : List TaskRow
  tasks_found : AreFound IsTaskBefore (filter (λ (row : TaskRow). row.board == n) c.tasks) tasks
  gone : List GoneRow
  gone_found : AreFound IsGoneBefore (filter (λ (row : GoneRow). row.board == n) c.gone) gone
  roles : List RoleRow
  roles_found : AreFound IsRoleBefore (filter (λ (row : RoleRow). row.board == n) c.roles) roles

board_found : (w : World) (b : Board) → IsOrdered w → GoneRise b → FindsOwn (world_rows w).horizon (world_rows w).tasks (world_rows w).gone b → HasFound (world_rows w) b.number
board_found w b ordered rise own = record {
  horizon = Some (horizon_row b);
  horizon_found = subst (λ l. IsOneOf l (Some (horizon_row b))) (sym own.horizon_is) (0, omega arith, refl);
  tasks = board_tasks b;
  tasks_found = subst (λ l. AreFound IsTaskBefore l (board_tasks b)) (sym own.tasks_are) (found_itself IsTaskBefore (λ x y p q. omega arith) (board_tasks b) (tasks_rise b));
  gone = board_gone b;
  gone_found = subst (λ l. AreFound IsGoneBefore l (board_gone b)) (sym own.gone_are) (found_itself IsGoneBefore gone_one_way (board_gone b) rise);
  roles = map role_row (roles_on w b);
  roles_found =
      subst (λ l. AreFound IsRoleBefore l (map role_row (roles_on w b))) (sym (role_rows_on b.number w.roles))
      (found_itself IsRoleBefore (λ x y p q. omega arith) (map role_row (roles_on w b)) (roles_rise b.number w.roles ordered.roles));
}

boards_found : (w : World) → IsOrdered w → (bs : List Board) → AllByRecursion GoneRise bs → AllByRecursion (FindsOwn (world_rows w).horizon (world_rows w).tasks (world_rows w).gone) bs
    → AllByRecursion (λ (b : Board). HasFound (world_rows w) b.number) bs
boards_found w ordered [] rise own = tt
boards_found w ordered (b ∷ bs) rise own = (board_found w b ordered rise.0 own.0, boards_found w ordered bs rise.1 own.1)

-- ---- worlds that are read in it are equal

record AreSame (v w : World) (bs ds : List Board) : Type 0 where
  boards : bs ≡ ds
  roles : flat_map (roles_on v) bs ≡ flat_map (roles_on w) ds

module _ (v w : World) (c : Content) where
  same_board : (b d : Board) → board_row b ≡ board_row d → IsBoardRead v c b → IsBoardRead w c d → HasFound c d.number → (b ≡ d) × (roles_on v b ≡ roles_on w d)
  same_board b d row rb rd found =
      let number : d.number ≡ b.number = sym (ap (λ (r : BoardRow). r.id) row) in
      let at : HasFound c b.number = subst (HasFound c) number found in
      go at found number
    where
      go : HasFound c b.number → HasFound c d.number → d.number ≡ b.number → (b ≡ d) × (roles_on v b ≡ roles_on w d)
      go at found number =
          let h = subst (λ n. IsOneOf (filter (is_horizon n) c.horizon) found.horizon) number found.horizon_found in
          let t = subst (λ n. AreFound IsTaskBefore (filter (λ (r : TaskRow). r.board == n) c.tasks) found.tasks) number found.tasks_found in
          let g = subst (λ n. AreFound IsGoneBefore (filter (λ (r : GoneRow). r.board == n) c.gone) found.gone) number found.gone_found in
          let r = subst (λ n. AreFound IsRoleBefore (filter (λ (row : RoleRow). row.board == n) c.roles) found.roles) number found.roles_found in (
            same_Ok b d (sym (rb.board found.horizon found.tasks found.gone h t g) ∙ ap (λ x. board_of x found.horizon found.tasks found.gone) row
                ∙ rd.board found.horizon found.tasks found.gone found.horizon_found found.tasks_found found.gone_found),
            same_Ok _ _ (sym (rb.roles [] found.roles r) ∙ rd.roles [] found.roles found.roles_found),
          )

  same_boards : (bs ds : List Board) → map board_row bs ≡ map board_row ds → AllByRecursion (IsBoardRead v c) bs → AllByRecursion (IsBoardRead w c) ds
      → AllByRecursion (λ (d : Board). HasFound c d.number) ds → AreSame v w bs ds
  same_boards [] [] rows rb rd found = record { boards = refl; roles = refl }
  same_boards [] (d ∷ ds) rows rb rd found = absurd (cc)
  same_boards (b ∷ bs) [] rows rb rd found = absurd (cc)
  same_boards (b ∷ bs) (d ∷ ds) rows rb rd found =
      let first : board_row b ≡ board_row d = cc in
      let rest : map board_row bs ≡ map board_row ds = cc in
      let here = same_board b d first rb.0 rd.0 found.0 in
      let more = same_boards bs ds rest rb.1 rd.1 found.1 in
      record { boards = ap₂ ◌∷◌ here.0 more.boards; roles = ap₂ ◌++◌ here.1 more.roles }

itself : (w : World) → HaveSameRows (world_rows w) (world_rows w)
itself w = record {
  people = IsPermutation-refl _;
  boards = IsPermutation-refl _;
  roles = IsPermutation-refl _;
  tasks = IsPermutation-refl _;
  links = IsPermutation-refl _;
  instances = IsPermutation-refl _;
  gone = IsPermutation-refl _;
  horizon = IsPermutation-refl _;
}

pub rows_apart : IsRead → (v w : World) → IsGoodWorld v → IsGoodWorld w → IsOrdered v → IsOrdered w → HasForm v → HasForm w → HaveSameRows (world_rows v) (world_rows w) → v ≡ w
rows_apart law v w good_v good_w up_v up_w form_v form_w same =
    let c = world_rows w in
    let rv = world_found law v c same good_v up_v form_v in
    let rw_ = world_found law w c (itself w) good_w up_w form_w in
    let numbered = numbered_from 1 w.boards good_w.numbered in
    let people_are = found_itself IsPersonBefore (λ x y p q. omega arith) c.people (people_rise w.people) in
    let boards_are = found_itself IsBoardBefore (λ x y p q. omega arith) c.boards (boards_rise 1 w.boards numbered) in
    let people : v.people ≡ w.people = same_Ok _ _ (sym (rv.people c.people people_are) ∙ rw_.people c.people people_are) in
    let rows : map board_row v.boards ≡ map board_row w.boards = sym (rv.boards c.boards boards_are) ∙ rw_.boards c.boards boards_are in
    let each = same_boards v w c v.boards w.boards rows rv.each rw_.each (boards_found w up_w w.boards up_w.gone (finds_own 1 w.boards numbered)) in
    let boards : v.boards ≡ w.boards = each.boards in
    let roles : v.roles ≡ w.roles = sym rv.roles ∙ each.roles ∙ rw_.roles in
    same_world v w people boards roles
  where
    same_world : (v w : World) → v.people ≡ w.people → v.boards ≡ w.boards → v.roles ≡ w.roles → v ≡ w
    same_world v w p b r =
        ap (λ x. let u : World = record { people = x; boards = v.boards; roles = v.roles } in u) p
        ∙ ap (λ x. let u : World = record { people = w.people; boards = x; roles = v.roles } in u) b
        ∙ ap (λ x. let u : World = record { people = w.people; boards = w.boards; roles = x } in u) r
