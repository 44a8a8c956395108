-- The rows of a person's roles tell the boards of the person.
use Rattle.std.proofs.Common.{◌≡◌, ◌∙◌, ◌<◌, ◌==◌, inl, inr, ℕ, true, List, [], ◌∷◌, Option, Some, None, Result, Ok, filter, map, refl, sym, ap, subst, arith, IsPermutation}
use Rattle.std.specs.List.{AllByRecursion}
use Rattle.std.specs.Option.{option_map}
use Rattle.std.proofs.lemmas.Bool.{cases_Bool, eqb-true}
use Rattle.std.proofs.lemmas.List.Sorted.{IsPermutation-sym}
use Rattle.sqlite.specs.State.{State as Database}
use Rattle.sqlite_trees.specs.Tree.{IsAscending}
use Rattle.sqlite_keyed.proofs.ListLemmas.{all_both, ascending-filter, ascending-map, filter-map, IsPermutation-filter}
use Rattle.tb_board.specs.declared.board.Board.{Board}
use Rattle.tb_board.specs.declared.world.RoleOn.{RoleOn}
use Rattle.tb_board.specs.Names.{is_title, read_title}
use Rattle.tb_board.specs.World.{find_board}
use Rattle.tb_calls.specs.Call.{State}
use Rattle.tb_calls.specs.Roles.{board_role, is_of, with_title}
use Rattle.tb_rows.specs.declared.fault.ReopenFault.{ReopenFault}
use Rattle.tb_rows.specs.Reading.{roles_in}
use Rattle.tb_rows.proofs.Lists.{all_passed}
use Rattle.tb_rows.proofs.Orders.{in_order}
use Rattle.tb_rows.proofs.ReadPeople.{roles_read}
use Rattle.tb_rows.proofs.RoleRows.{RoleRises}
use Rattle.tb_calls.specs.declared.role_bodies.BoardRole.{BoardRole}
use Rattle.tb_rows.specs.Rows.{board_row, role_row}
use Rattle.tb_sql.specs.Changes.{is_board}
use Rattle.tb_sql.specs.RolesOf.{IsBoardBefore}
use Rattle.tb_sql_tables.specs.declared.rows.BoardRow.{BoardRow}
use Rattle.tb_sql_tables.specs.declared.rows.RoleRow.{RoleRow}
use Rattle.tb_sql_tables.specs.Content.{Content}
use Rattle.tb_sql_tables.specs.Found.{AreFound, IsOneOf}
use Rattle.tb_lookup.specs.Reopening.{OfContent, OfState}
use Rattle.tb_lookup.specs.Stored.{AreRowsOf}
use Rattle.tb_lookup.proofs.StoredBoards.{row_found}

-- ---- the roles of a person

boards_rise : (n : ℕ) (rs : List RoleOn) → AllByRecursion (λ r. is_of n r ≡ true) rs → IsAscending RoleRises rs → IsAscending (λ (r s : RoleOn). r.board < s.board) rs
boards_rise n [] all up = tt
boards_rise n (r ∷ rs) all up = (
  all_both (λ s. is_of n s ≡ true) (RoleRises r) (λ s. r.board < s.board)
      (λ s own rises. elim rises [ inl below ↦ below | inr same ↦ absurd (omega (arith, same.1, eqb-true s.person n own, eqb-true r.person n all.0)) ]) rs all.1 up.0,
  boards_rise n rs all.1 up.1,
)

own_rise : (n : ℕ) (rs : List RoleOn) → IsAscending RoleRises rs → IsAscending IsBoardBefore (map role_row (filter (is_of n) rs))
own_rise n rs up =
    ascending-map IsBoardBefore role_row (filter (is_of n) rs) (boards_rise n (filter (is_of n) rs) (all_passed (is_of n) rs) (ascending-filter RoleRises (is_of n) rs up))

rows_of : (s : State) (c : Content) → AreRowsOf s c → (n : ℕ) (rows : List RoleRow) → AreFound IsBoardBefore (filter (λ (row : RoleRow). row.person == n) c.roles) rows → rows ≡ map role_row (filter (is_of n) s.world.roles)
rows_of s c of_s n rows are =
    let own = map role_row (filter (is_of n) s.world.roles) in
    let all = IsPermutation-filter (λ (row : RoleRow). row.person == n) _ _ (IsPermutation-sym _ _ of_s.same.tables.roles) in
    are.in_order own (subst (λ l. IsPermutation l (filter (λ (row : RoleRow). row.person == n) c.roles)) (filter-map (λ (row : RoleRow). row.person == n) role_row s.world.roles) all)
    (own_rise n s.world.roles (in_order s.world of_s.good).roles)

same_Ok : {X : Type 0} (x y : X) → ◌≡◌ {A = Result X ReopenFault} (Ok x) (Ok y) → x ≡ y
same_Ok x y h = cc

pub own_roles_stored : (old new : Database) (person : ℕ) (rows : List RoleRow) (roles : List RoleOn) → OfContent old new (λ c. AreFound IsBoardBefore (filter (λ (row : RoleRow). row.person == person) c.roles) rows)
    → roles_in [] rows ≡ Ok roles → OfState old new (λ s. roles ≡ filter (is_of person) s.world.roles)
own_roles_stored old new person rows roles found is clean s stored =
    let own = filter (is_of person) s.world.roles in
    same_Ok roles own (sym is ∙ ap (roles_in []) (rows_of s stored.content stored.rows person rows (found clean stored.content stored.stands)) ∙ roles_read [] own)

-- ---- the title of a board

title_is : (text title : List ℕ) → Some title ≡ read_title text → title ≡ text
title_is text title read = elim (cases_Bool (is_title text)) [
  | inl formed ↦ let is : Some title ≡ Some text = read ∙ rw formed refl in cc
  | inr other ↦ let is : Some title ≡ None = read ∙ rw other refl in absurd (cc)
]

abbrev pub titled : RoleOn → List ℕ → BoardRole
titled r title = record { board = r.board; title = title; role = r.role }

pub title_stored : (old new : Database) (r : RoleOn) (row : BoardRow) (title : List ℕ) → OfContent old new (λ c. IsOneOf (filter (is_board r.board) c.boards) (Some row)) → Some title ≡ read_title row.title
    → OfState old new (λ s. board_role s.world r ≡ Some (titled r title))
title_stored old new r row title found read clean s stored = go (find_board s.world r.board) (row_found s stored.content stored.rows r.board (Some row) (found clean stored.content stored.stands))
  where
    go : (b : Option Board) → Some row ≡ option_map board_row b → option_map (with_title r) b ≡ Some (titled r title)
    go None is = absurd (cc)
    go (Some d) is =
        let row_is : row ≡ board_row d = cc in
        ap (λ (t : List ℕ). Some (titled r t)) (sym (title_is row.title title read ∙ ap (λ (x : BoardRow). x.title) row_is))
