-- The roles on one board tell what all roles tell of it.
use Rattle.std.proofs.Common.{◌≡◌, ◌∙◌, ◌==◌, ◌&&◌, ℕ, Bool, true, false, List, [], Option, Some, None, Result, Ok, Err, filter, find, map, length, refl, sym, ap, subst, IsPermutation}
use Rattle.std.specs.Prelude.{slice_get}
use Rattle.std.specs.List.{count_by}
use Rattle.std.specs.Option.{option_map}
use Rattle.std.proofs.lemmas.List.Sorted.{IsPermutation-sym}
use Rattle.std.proofs.lemmas.List.Sums.{length-filter}
use Rattle.sqlite.specs.State.{HasCleanDisk, State as Database}
use Rattle.sqlite_keyed.proofs.ListLemmas.{slice_get-filter, IsPermutation-filter}
use Rattle.sqlite_trees.proofs.ListLemmas.{filter-filter}
use Rattle.tb_board.specs.declared.world.RoleOn.{RoleOn}
use Rattle.tb_board.specs.declared.world.World.{World}
use Rattle.tb_board.specs.World.{is_owner, is_role_of, owners, owns, role_of}
use Rattle.tb_calls.specs.Call.{State}
use Rattle.tb_rows.specs.declared.fault.ReopenFault.{ReopenFault}
use Rattle.tb_rows.specs.declared.fault.ReopenFault.TheVariants.{NotRows}
use Rattle.tb_rows.specs.Reading.{roles_in}
use Rattle.tb_rows.proofs.Orders.{in_order}
use Rattle.tb_rows.proofs.ReadPeople.{roles_read}
use Rattle.tb_rows.proofs.RoleRows.{role_rows_on, roles_rise}
use Rattle.tb_rows.specs.Rows.{role_row}
use Rattle.tb_sql.specs.Changes.{IsRoleBefore}
use Rattle.tb_sql_tables.specs.declared.rows.RoleRow.{RoleRow}
use Rattle.tb_sql_tables.specs.Content.{Content}
use Rattle.tb_sql_tables.specs.Found.{AreFound}
use Rattle.tb_lookup.specs.Reopening.{OfContent, OfState}
use Rattle.tb_lookup.specs.Stored.{AreRowsOf, IsStored}
use Rattle.tb_lookup.specs.declared.roles.RolesFound.{RolesFound}
use Rattle.tb_lookup.specs.Roles.{role_for, roles_at, AreRolesFound}

-- ---- the roles that are found on a board's number

same_Ok : {X : Type 0} (x y : X) → ◌≡◌ {A = Result X ReopenFault} (Ok x) (Ok y) → x ≡ y
same_Ok x y h = cc

-- their rows, in the order of the roles
rows_at : (s : State) (c : Content) → AreRowsOf s c → (board : ℕ) (rows : List RoleRow) → AreFound IsRoleBefore (filter (λ (row : RoleRow). row.board == board) c.roles) rows → rows ≡ map role_row (roles_at s.world board)
rows_at s c of_s board rows are =
    let own = map role_row (roles_at s.world board) in
    let all = IsPermutation-filter (λ (row : RoleRow). row.board == board) _ _ (IsPermutation-sym _ _ of_s.same.tables.roles) in
    are.in_order own (subst (λ l. IsPermutation l (filter (λ (row : RoleRow). row.board == board) c.roles)) (role_rows_on board s.world.roles) all)
    (roles_rise board s.world.roles (in_order s.world of_s.good).roles)

pub roles_stored : (old new : Database) (board : ℕ) (rows : List RoleRow) (roles : List RoleOn) → OfContent old new (λ c. AreFound IsRoleBefore (filter (λ (row : RoleRow). row.board == board) c.roles) rows) → roles_in [] rows ≡ Ok roles
    → OfState old new (λ s. roles ≡ roles_at s.world board)
roles_stored old new board rows roles found is clean s stored =
    same_Ok roles (roles_at s.world board) (sym is ∙ ap (roles_in []) (rows_at s stored.content stored.rows board rows (found clean stored.content stored.stands)) ∙ roles_read [] (roles_at s.world board))

-- they are never what no world has
pub roles_never : (old new : Database) (board : ℕ) (rows : List RoleRow) → OfContent old new (λ c. AreFound IsRoleBefore (filter (λ (row : RoleRow). row.board == board) c.roles) rows) → roles_in [] rows ≡ Err NotRows
    → HasCleanDisk new → (s : State) → IsStored s old → ⊥
roles_never old new board rows found is clean s stored =
    let own : roles_in [] rows ≡ Ok (roles_at s.world board) = ap (roles_in []) (rows_at s stored.content stored.rows board rows (found clean stored.content stored.stands)) ∙ roles_read [] (roles_at s.world board) in
    let both : Err NotRows ≡ Ok (roles_at s.world board) = sym is ∙ own in
    cc

-- ---- what these tell

first_of : (a b : Bool) → (a && b) ≡ true → a ≡ true
first_of true b h = refl
first_of false b h = h

module _ (board : ℕ) (p : RoleOn → Bool) (on : (r : RoleOn) → p r ≡ true → (r.board == board) ≡ true) (rs : List RoleOn) where
  same_passed : filter p (filter (λ (r : RoleOn). r.board == board) rs) ≡ filter p rs
  same_passed = filter-filter p (λ (r : RoleOn). r.board == board) on rs

  find_on : find p (filter (λ (r : RoleOn). r.board == board) rs) ≡ find p rs
  find_on = sym (slice_get-filter p (filter (λ (r : RoleOn). r.board == board) rs)) ∙ ap (λ l. slice_get l 0) same_passed ∙ slice_get-filter p rs

  count_on : count_by p (filter (λ (r : RoleOn). r.board == board) rs) ≡ count_by p rs
  count_on = sym (length-filter p (filter (λ (r : RoleOn). r.board == board) rs)) ∙ ap length same_passed ∙ length-filter p rs

module _ (v w : World) (board : ℕ) (alone : v.roles ≡ roles_at w board) where
  role_alone : (person : ℕ) → role_of v board person ≡ role_of w board person
  role_alone person =
      ap (λ rs. option_map (λ (r : RoleOn). r.role) (find (is_role_of board person) rs)) alone
      ∙ ap (option_map (λ (r : RoleOn). r.role)) (find_on board (is_role_of board person) (λ r h. first_of (r.board == board) (r.person == person) h) w.roles)

  other_alone : (other : Option ℕ) → role_for v board other ≡ role_for w board other
  other_alone None = refl
  other_alone (Some person) = role_alone person

  owners_alone : owners v board ≡ owners w board
  owners_alone = ap (count_by (owns board)) alone ∙ count_on board (owns board) (λ r h. first_of (r.board == board) (is_owner r.role) h) w.roles

  roles_suffice : (caller : ℕ) (other : Option ℕ) (found : RolesFound) → AreRolesFound v board caller other found → AreRolesFound w board caller other found
  roles_suffice caller other found are = record {
    caller_is = are.caller_is ∙ role_alone caller;
    other_is = are.other_is ∙ other_alone other;
    owners_are = are.owners_are ∙ owners_alone;
  }

pub roles_told : (old new : Database) (v : World) (board caller : ℕ) (other : Option ℕ) (found : RolesFound) → OfState old new (λ s. v.roles ≡ roles_at s.world board) → AreRolesFound v board caller other found
    → OfState old new (λ s. AreRolesFound s.world board caller other found)
roles_told old new v board caller other found alone are clean s stored = roles_suffice v s.world board (alone clean s stored) caller other found are
