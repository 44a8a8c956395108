-- What the statements on roles do.
use Rattle.std.proofs.Common.{◌≡◌, ◌&&◌, ℕ, pos, List, [], ◌∷◌, map, drop, codes, refl, ap₂, arith, option_map, slice_get, All, ◌⊎◌, not}
use Rattle.std.specs.Prelude.{filter, ◌==◌}
use Rattle.std.specs.declared.cmp.Ordering.TheVariants.{Less}
use Rattle.std.proofs.lemmas.Int.{ints}
use Rattle.std.proofs.lemmas.Bool.Decides.{nat_tests}
use Rattle.sqlite_value.specs.declared.keys.Collation.TheVariants.{Binary}
use Rattle.sqlite_value.specs.declared.keys.Key.{Key}
use Rattle.sqlite_value.specs.declared.value.Value.TheVariants.{Null, Int}
use Rattle.sqlite_value.specs.Keys.{ascending}
use Rattle.sqlite_value.specs.Order.{Row, column}
use Rattle.sqlite_value.proofs.OrderLemmas.{value_cmp-Int}
use Rattle.sqlite_sql.specs.Query.{Output, output_cmp}
use Rattle.sqlite_sql.specs.Term.{Term, lit, col}
use Rattle.sqlite_schema.specs.declared.command.Command.TheVariants.{Insert, Delete}
use Rattle.sqlite_schema.specs.declared.command.Source.TheVariants.{Values}
use Rattle.sqlite_tied.specs.Compute.{everything}
use Rattle.sqlite.specs.Listing.{understood}
use Rattle.sqlite.specs.State.{State, Shown, FailsToQuery, IsTooLate}
use Rattle.tb_sql_tables.specs.declared.rows.RoleRow.{RoleRow}
use Rattle.tb_sql_tables.specs.Tables.{role_plain, role_table, role_tree, store_schema}
use Rattle.tb_sql_tables.specs.Rows.{role_row}
use Rattle.tb_sql_tables.specs.Read.{role_of, IsRoleRow}
use Rattle.tb_sql_tables.specs.Statements.{Changes, Finds, Ran}
use Rattle.tb_sql_tables.specs.Found.{AreFound, IsOneOf}
use Rattle.tb_sql_tables.proofs.Contents.{roles_changed}
use Rattle.tb_sql_tables.proofs.Effects.{each, cells_deleted, cells_shown, found, found_one, each_of, each_left}
use Rattle.tb_sql_tables.proofs.Inserts.{row_put, cast_integer, cast_null}
use Rattle.tb_sql_tables.proofs.Inside.{shown_open}
use Rattle.tb_sql_tables.proofs.KeyTests.{by_one, by_two, has_one, has_two, one_tested, two_tested, equal_numbers}
use Rattle.tb_sql_tables.proofs.Queries.{query_of, program_of, output_at}
use Rattle.tb_sql_tables.proofs.Statements.{Means, Asks, row_inserted}
use Rattle.tb_sql.specs.Changes.{with_role, without_role, is_role, IsRoleBefore}
use Rattle.tb_sql_tables.specs.Failing.{IsExcused}
use Rattle.tb_sql_tables.specs.Content.{Content, IsContent}
use Rattle.tb_sql_tables.proofs.Failing.{Suits, fails_so}
use Rattle.tb_sql_tables.proofs.Fitted.{all_read, role_read as role_is_read}
use Rattle.sqlite.specs.declared.error.Error.{Error}
use Rattle.tb_sql_tables.specs.Fitting.{FitsRole}

-- ---- a role goes in

abbrev pub insert_text : List ℕ
insert_text = codes "INSERT INTO role (board, person, kind) VALUES (?1, ?2, ?3)"

abbrev terms : List Term
terms = lit Null ∷ col 0 0 ∷ col 0 1 ∷ col 0 2 ∷ []

inserts : Means insert_text (Insert 3 (Values terms 4))
unfolding understood everything
inserts = record { is = refl; bare = (refl, refl) }

pub insert_role : (old new : State) (role : RoleRow) → FitsRole role → Ran insert_text (role_row role) old new → Changes (with_role role) old new
insert_role old new role fits ran = record {
  shown = ran.1.1;
  content = λ content is.
      let cells = role_row role in
      let effect = row_inserted 3 role_plain refl refl insert_text old new is.schema cells ran.0 terms 4 (Null ∷ cells) inserts refl ran.1 in
      roles_changed content (role ∷ content.roles) old.now new.now effect.1 is
      (row_put store_schema old.now.trees new.now.trees role_table (Null ∷ cells) cells _ (rw (cast_null, cast_integer (pos role.board), cast_integer (pos role.person), cast_integer (pos role.kind)) refl) effect.0 is.rows.tables.roles) (fits, is.rows.tables.fits.roles);
}

-- ---- a role goes

abbrev pub delete_text : List ℕ
delete_text = codes "DELETE FROM role WHERE board = ?1 AND person = ?2"

deletes : Means delete_text (Delete 3 (program_of (query_of role_tree by_two (col 1 0 ∷ []) [])))
unfolding understood everything
deletes = record { is = refl; bare = (refl, refl) }

pub delete_role : (old new : State) (board person : ℕ) → Ran delete_text (Int (pos board) ∷ Int (pos person) ∷ []) old new → Changes (without_role board person) old new
delete_role old new board person ran = record {
  shown = ran.1.1;
  content = λ content is.
      let same = each (λ (role : RoleRow). ap₂ ◌&&◌ (equal_numbers role.board board) (equal_numbers role.person person)) content.roles in
      let effect = cells_deleted role_row (is_role board person) content.roles 3 role_plain refl refl delete_text by_two old new is.schema (Int (pos board) ∷ Int (pos person) ∷ []) ran
      (has_two (Int (pos board)) (Int (pos person))) (two_tested (Int (pos board)) (Int (pos person)) []) same is.rows.tables.roles deletes in
      roles_changed content _ old.now new.now effect.1 is effect.0 (each_left FitsRole (λ x. not (is_role board person x)) content.roles is.rows.tables.fits.roles);
}

-- ---- queries

abbrev shown_terms : List Term
shown_terms = col 1 1 ∷ col 1 2 ∷ col 1 3 ∷ []

abbrev names : List (List ℕ)
names = codes "board" ∷ codes "person" ∷ codes "kind" ∷ []

abbrev columns : Row → Row
columns cells = column cells 0 ∷ column cells 1 ∷ column cells 2 ∷ []

abbrev pub select_text : List ℕ
select_text = codes "SELECT board, person, kind FROM role WHERE board = ?1 ORDER BY person"

abbrev in_order : List (Term × Key)
in_order = (col 1 2, ascending Binary) ∷ []

asks : Asks select_text role_tree by_one shown_terms in_order
unfolding understood everything
asks = record { names = names; means = record { is = refl; bare = (refl, refl) }; unlisted = refl }

abbrev out : Row → Output
out cells = (column cells 1 ∷ [], columns cells)

shows : (params row : Row) → output_at role_tree refl by_one shown_terms in_order params row ≡ out (drop 1 row)
shows params [] = refl
shows params (id ∷ cells) = refl

lower : (a b : RoleRow) → IsRoleBefore a b → output_cmp (query_of role_tree by_one shown_terms in_order) (out (role_row a)) (out (role_row b)) ≡ Less
lower a b before = rw value_cmp-Int (grind (arith, ints, nat_tests))

pub select_roles : (old new : State) (board : ℕ) (rows : List Row) → Shown select_text (Int (pos board) ∷ []) old new rows
    → Finds (λ content. AreFound IsRoleBefore (filter (λ role. role.board == board) content.roles) (map role_of rows)) old
select_roles old new board rows shown = record {
  was_open = shown_open select_text _ old new rows shown;
  found = λ content is.
      let params = Int (pos board) ∷ [] in
      let same = each (λ (role : RoleRow). equal_numbers role.board board) content.roles in
      let answer = cells_shown role_row (λ role. role.board == board) content.roles role_tree refl select_text by_one shown_terms in_order asks old new params rows is.schema shown
      (has_one (Int (pos board))) out (one_tested (Int (pos board)) []) (shows params) same is.rows.tables.roles in
      found role_of (query_of role_tree by_one shown_terms in_order) (λ role. out (role_row role)) _ rows (each (λ role. refl) _) answer IsRoleBefore lower;
}

pub select_roles_read : (old new : State) (board : ℕ) (rows : List Row) → Shown select_text (Int (pos board) ∷ []) old new rows → (content : Content) → IsContent content old.now → All IsRoleRow rows
select_roles_read old new board rows shown content is =
    let params = Int (pos board) ∷ [] in
    let same = each (λ (role : RoleRow). equal_numbers role.board board) content.roles in
    let answer = cells_shown role_row (λ role. role.board == board) content.roles role_tree refl select_text by_one shown_terms in_order asks old new params rows is.schema shown
    (has_one (Int (pos board))) out (one_tested (Int (pos board)) []) (shows params) same is.rows.tables.roles in
    all_read IsRoleRow _ _ _ rows answer (each_of role_is_read _ (each_left _ (λ role. role.board == board) content.roles is.rows.tables.fits.roles))

select_roles_suits : (board : ℕ) → Suits select_text role_tree by_one shown_terms in_order (Int (pos board) ∷ [])
unfolding understood everything
select_roles_suits board = record { whole = refl; given = refl; typed = refl }

pub select_roles_excused : (old new : State) (board : ℕ) (e : Error) → FailsToQuery select_text (Int (pos board) ∷ []) old new e ⊎ IsTooLate select_text (Int (pos board) ∷ []) old new e → IsExcused old new e
select_roles_excused old new board e failed other ready content is = fails_so select_text role_tree by_one shown_terms in_order asks _ (select_roles_suits board) old new e is.schema ready other failed

abbrev pub find_text : List ℕ
find_text = codes "SELECT board, person, kind FROM role WHERE board = ?1 AND person = ?2"

asks_one : Asks find_text role_tree by_two shown_terms []
unfolding understood everything
asks_one = record { names = names; means = record { is = refl; bare = (refl, refl) }; unlisted = refl }

abbrev out_one : Row → Output
out_one cells = ([], columns cells)

shows_one : (params row : Row) → output_at role_tree refl by_two shown_terms [] params row ≡ out_one (drop 1 row)
shows_one params [] = refl
shows_one params (id ∷ cells) = refl

pub find_role : (old new : State) (board person : ℕ) (rows : List Row) → Shown find_text (Int (pos board) ∷ Int (pos person) ∷ []) old new rows
    → Finds (λ content. IsOneOf (filter (is_role board person) content.roles) (option_map role_of (slice_get rows 0))) old
find_role old new board person rows shown = record {
  was_open = shown_open find_text _ old new rows shown;
  found = λ content is.
      let params = Int (pos board) ∷ Int (pos person) ∷ [] in
      let same = each (λ (role : RoleRow). ap₂ ◌&&◌ (equal_numbers role.board board) (equal_numbers role.person person)) content.roles in
      let answer = cells_shown role_row (is_role board person) content.roles role_tree refl find_text by_two shown_terms [] asks_one old new params rows is.schema shown
      (has_two (Int (pos board)) (Int (pos person))) out_one (two_tested (Int (pos board)) (Int (pos person)) []) (shows_one params) same is.rows.tables.roles in
      found_one role_of (query_of role_tree by_two shown_terms []) (λ role. out_one (role_row role)) _ rows (each (λ role. refl) _) answer;
}

pub find_role_read : (old new : State) (board person : ℕ) (rows : List Row) → Shown find_text (Int (pos board) ∷ Int (pos person) ∷ []) old new rows → (content : Content) → IsContent content old.now → All IsRoleRow rows
find_role_read old new board person rows shown content is =
    let params = Int (pos board) ∷ Int (pos person) ∷ [] in
    let same = each (λ (role : RoleRow). ap₂ ◌&&◌ (equal_numbers role.board board) (equal_numbers role.person person)) content.roles in
    let answer = cells_shown role_row (is_role board person) content.roles role_tree refl find_text by_two shown_terms [] asks_one old new params rows is.schema shown
    (has_two (Int (pos board)) (Int (pos person))) out_one (two_tested (Int (pos board)) (Int (pos person)) []) (shows_one params) same is.rows.tables.roles in
    all_read IsRoleRow _ _ _ rows answer (each_of role_is_read _ (each_left _ (is_role board person) content.roles is.rows.tables.fits.roles))

find_role_suits : (board person : ℕ) → Suits find_text role_tree by_two shown_terms [] (Int (pos board) ∷ Int (pos person) ∷ [])
unfolding understood everything
find_role_suits board person = record { whole = refl; given = refl; typed = refl }

pub find_role_excused : (old new : State) (board person : ℕ) (e : Error) → FailsToQuery find_text (Int (pos board) ∷ Int (pos person) ∷ []) old new e ⊎ IsTooLate find_text (Int (pos board) ∷ Int (pos person) ∷ []) old new e → IsExcused old new e
find_role_excused old new board person e failed other ready content is = fails_so find_text role_tree by_two shown_terms [] asks_one _ (find_role_suits board person) old new e is.schema ready other failed
