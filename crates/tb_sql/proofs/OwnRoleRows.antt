-- What the statement on one person's roles does.
use Rattle.std.proofs.Common.{◌≡◌, ℕ, pos, List, [], ◌∷◌, map, drop, codes, refl, arith, All, ◌⊎◌}
use Rattle.std.specs.Prelude.{filter, ◌==◌, Bool}
use Rattle.std.specs.declared.cmp.Ordering.TheVariants.{Less}
use Rattle.std.proofs.lemmas.Int.{ints}
use Rattle.std.proofs.lemmas.Bool.Decides.{nat_tests}
use Rattle.sqlite_value.specs.declared.keys.Collation.TheVariants.{Binary}
use Rattle.sqlite_value.specs.declared.keys.Key.{Key}
use Rattle.sqlite_value.specs.declared.value.Value.{Value}
use Rattle.sqlite_value.specs.declared.value.Value.TheVariants.{Int}
use Rattle.sqlite_value.specs.Keys.{ascending}
use Rattle.sqlite_value.specs.Order.{Row, column}
use Rattle.sqlite_value.proofs.OrderLemmas.{value_cmp-Int}
use Rattle.sqlite_sql.specs.Query.{Output, output_cmp}
use Rattle.sqlite_sql.specs.Term.{Term, col}
use Rattle.sqlite_tied.specs.Compute.{everything}
use Rattle.sqlite.specs.Listing.{understood}
use Rattle.sqlite.specs.State.{State, Shown, FailsToQuery, IsTooLate}
use Rattle.tb_sql_tables.specs.declared.rows.RoleRow.{RoleRow}
use Rattle.tb_sql_tables.specs.Tables.{role_tree}
use Rattle.tb_sql_tables.specs.Rows.{role_row}
use Rattle.tb_sql_tables.specs.Read.{role_of, IsRoleRow}
use Rattle.tb_sql_tables.specs.Statements.{Finds}
use Rattle.tb_sql_tables.specs.Found.{AreFound}
use Rattle.tb_sql_tables.proofs.Effects.{each, cells_shown, found, each_of, each_left}
use Rattle.tb_sql_tables.proofs.Inside.{shown_open}
use Rattle.tb_sql_tables.proofs.KeyTests.{equal, are_equal, equal_numbers}
use Rattle.tb_sql_tables.proofs.Queries.{query_of, output_at, passes}
use Rattle.tb_sql_tables.proofs.SqlTests.{and_true}
use Rattle.tb_sql_tables.proofs.Statements.{Asks}
use Rattle.tb_sql.specs.RolesOf.{IsBoardBefore}
use Rattle.tb_sql_tables.specs.Failing.{IsExcused}
use Rattle.tb_sql_tables.specs.Content.{Content, IsContent}
use Rattle.tb_sql_tables.proofs.Failing.{Suits, fails_so}
use Rattle.tb_sql_tables.proofs.Fitted.{all_read, role_read as role_is_read}
use Rattle.sqlite.specs.declared.error.Error.{Error}

abbrev shown_terms : List Term
shown_terms = col 1 1 ∷ col 1 2 ∷ col 1 3 ∷ []

abbrev names : List (List ℕ)
names = codes "board" ∷ codes "person" ∷ codes "kind" ∷ []

abbrev columns : Row → Row
columns cells = column cells 0 ∷ column cells 1 ∷ column cells 2 ∷ []

abbrev pub select_text : List ℕ
select_text = codes "SELECT board, person, kind FROM role WHERE person = ?1 ORDER BY board"

-- the column of the person, and the same test on the columns alone
abbrev by_person : List Term
by_person = equal 2 0 ∷ []

abbrev has_person : Value → Row → Bool
has_person k cells = are_equal (column cells 1) k

person_tested : (k : Value) (more row : Row) → passes by_person (k ∷ more) row ≡ has_person k (drop 1 row)
person_tested k more [] = and_true _
person_tested k more (id ∷ cells) = and_true _

abbrev in_order : List (Term × Key)
in_order = (col 1 1, ascending Binary) ∷ []

asks : Asks select_text role_tree by_person shown_terms in_order
unfolding understood everything
asks = record { names = names; means = record { is = refl; bare = (refl, refl) }; unlisted = refl }

abbrev out : Row → Output
out cells = (column cells 0 ∷ [], columns cells)

shows : (params row : Row) → output_at role_tree refl by_person shown_terms in_order params row ≡ out (drop 1 row)
shows params [] = refl
shows params (id ∷ cells) = refl

lower : (a b : RoleRow) → IsBoardBefore a b → output_cmp (query_of role_tree by_person shown_terms in_order) (out (role_row a)) (out (role_row b)) ≡ Less
lower a b before = rw value_cmp-Int (grind (arith, ints, nat_tests))

pub select_roles_of : (old new : State) (person : ℕ) (rows : List Row) → Shown select_text (Int (pos person) ∷ []) old new rows
    → Finds (λ content. AreFound IsBoardBefore (filter (λ role. role.person == person) content.roles) (map role_of rows)) old
select_roles_of old new person rows shown = record {
  was_open = shown_open select_text _ old new rows shown;
  found = λ content is.
      let params = Int (pos person) ∷ [] in
      let same = each (λ (role : RoleRow). equal_numbers role.person person) content.roles in
      let answer = cells_shown role_row (λ role. role.person == person) content.roles role_tree refl select_text by_person shown_terms in_order asks old new params rows is.schema shown
      (has_person (Int (pos person))) out (person_tested (Int (pos person)) []) (shows params) same is.rows.tables.roles in
      found role_of (query_of role_tree by_person shown_terms in_order) (λ role. out (role_row role)) _ rows (each (λ role. refl) _) answer IsBoardBefore lower;
}

pub select_roles_of_read : (old new : State) (person : ℕ) (rows : List Row) → Shown select_text (Int (pos person) ∷ []) old new rows → (content : Content) → IsContent content old.now → All IsRoleRow rows
select_roles_of_read old new person rows shown content is =
    let params = Int (pos person) ∷ [] in
    let same = each (λ (role : RoleRow). equal_numbers role.person person) content.roles in
    let answer = cells_shown role_row (λ role. role.person == person) content.roles role_tree refl select_text by_person shown_terms in_order asks old new params rows is.schema shown
    (has_person (Int (pos person))) out (person_tested (Int (pos person)) []) (shows params) same is.rows.tables.roles in
    all_read IsRoleRow _ _ _ rows answer (each_of role_is_read _ (each_left _ (λ role. role.person == person) content.roles is.rows.tables.fits.roles))

select_roles_of_suits : (person : ℕ) → Suits select_text role_tree by_person shown_terms in_order (Int (pos person) ∷ [])
unfolding understood everything
select_roles_of_suits person = record { whole = refl; given = refl; typed = refl }

pub select_roles_of_excused : (old new : State) (person : ℕ) (e : Error) → FailsToQuery select_text (Int (pos person) ∷ []) old new e ⊎ IsTooLate select_text (Int (pos person) ∷ []) old new e → IsExcused old new e
select_roles_of_excused old new person e failed other ready content is = fails_so select_text role_tree by_person shown_terms in_order asks _ (select_roles_of_suits person) old new e is.schema ready other failed
