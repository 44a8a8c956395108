-- What statements on the tables of the first version do.
use Rattle.std.proofs.Common.{◌≡◌, List, [], ◌∷◌, map, pos, refl, arith}
use Rattle.std.specs.List.{AllByRecursion}
use Rattle.sqlite_value.specs.declared.value.Value.TheVariants.{Null, Int, Text}
use Rattle.sqlite_value.specs.Order.{Row}
use Rattle.sqlite_sql.specs.Term.{Term, lit, col}
use Rattle.sqlite_schema.specs.declared.command.Command.TheVariants.{Insert}
use Rattle.sqlite_schema.specs.declared.command.Source.TheVariants.{Values}
use Rattle.sqlite_tied.specs.Compute.{everything}
use Rattle.sqlite.specs.Effect.{Database}
use Rattle.sqlite.specs.Listing.{understood}
use Rattle.sqlite.specs.State.{State}
use Rattle.tb_sql_tables.specs.declared.rows.PersonRow.{PersonRow}
use Rattle.tb_sql_tables.specs.declared.rows.BoardRow.{BoardRow}
use Rattle.tb_sql_tables.specs.declared.rows.RoleRow.{RoleRow}
use Rattle.tb_sql_tables.specs.Tables.{board_plain, board_table, board_tree, old_schema, person_plain, person_table, person_tree, role_plain, role_table, role_tree}
use Rattle.tb_sql_tables.specs.Rows.{board_row, person_row, role_row}
use Rattle.tb_sql_tables.specs.Content.{old_part, AreOldTables, Content, HasKeyed, HasRows}
use Rattle.tb_sql_tables.specs.Fitting.{FitsBoard, FitsPerson, FitsRole}
use Rattle.tb_sql_tables.specs.Standing.{IsOldContent}
use Rattle.tb_sql_tables.specs.Statements.{Ran, Turns}
use Rattle.tb_sql_tables.proofs.Fitted.{fit_boards, fit_people, fit_roles}
use Rattle.tb_sql_tables.proofs.Inserts.{cast_integer, cast_null, row_put}
use Rattle.tb_sql_tables.proofs.Keyed.{keyed_put}
use Rattle.tb_sql_tables.proofs.Statements.{EditedIn, MeansIn, row_inserted_in}
use Rattle.tb_sql_tables.proofs.Trees.{old_quiet}
use Rattle.tb_sql.specs.Changes.{with_board, with_person, with_role}
use Rattle.tb_sql.proofs.BoardRows as boards
use Rattle.tb_sql.proofs.PersonRows as people
use Rattle.tb_sql.proofs.RoleRows as roles

-- ---- what they leave of the content

people_changed : (content : Content) (people : List PersonRow) (old new : Database) → EditedIn old_schema person_tree old new → IsOldContent content old → HasKeyed (map person_row people) (new.trees person_tree) → AllByRecursion FitsPerson people → IsOldContent (record content { people = people }) new
people_changed content people old new e is changed fit =
    let was = is.rows.tables in
    let tables : AreOldTables (record content { people = people }) new.trees = record {
      meta = rw (e.others.0 (omega arith)) was.meta;
      people = changed;
      boards = rw (e.others.1.1.0 (omega arith)) was.boards;
      roles = rw (e.others.1.1.1.0 (omega arith)) was.roles;
      tasks = rw (e.others.1.1.1.1.0 (omega arith)) was.tasks;
      links = rw (e.others.1.1.1.1.1.0 (omega arith)) was.links;
      instances = rw (e.others.1.1.1.1.1.1.0 (omega arith)) was.instances;
      gone = rw (e.others.1.1.1.1.1.1.1.0 (omega arith)) was.gone;
      kept = rw (e.others.1.1.1.1.1.1.1.1.0 (omega arith)) was.kept;
      task_identifiers = was.task_identifiers;
      kept_identifiers = was.kept_identifiers;
      fits = fit_people (old_part content) people was.fits fit;
    } in
    record { schema = e.schema; rows = record { sound = e.sound; tables = tables } }

boards_changed : (content : Content) (boards : List BoardRow) (old new : Database) → EditedIn old_schema board_tree old new → IsOldContent content old → HasKeyed (map board_row boards) (new.trees board_tree) → AllByRecursion FitsBoard boards → IsOldContent (record content { boards = boards }) new
boards_changed content boards old new e is changed fit =
    let was = is.rows.tables in
    let tables : AreOldTables (record content { boards = boards }) new.trees = record {
      meta = rw (e.others.0 (omega arith)) was.meta;
      people = rw (e.others.1.0 (omega arith)) was.people;
      boards = changed;
      roles = rw (e.others.1.1.1.0 (omega arith)) was.roles;
      tasks = rw (e.others.1.1.1.1.0 (omega arith)) was.tasks;
      links = rw (e.others.1.1.1.1.1.0 (omega arith)) was.links;
      instances = rw (e.others.1.1.1.1.1.1.0 (omega arith)) was.instances;
      gone = rw (e.others.1.1.1.1.1.1.1.0 (omega arith)) was.gone;
      kept = rw (e.others.1.1.1.1.1.1.1.1.0 (omega arith)) was.kept;
      task_identifiers = was.task_identifiers;
      kept_identifiers = was.kept_identifiers;
      fits = fit_boards (old_part content) boards was.fits fit;
    } in
    record { schema = e.schema; rows = record { sound = e.sound; tables = tables } }

roles_changed : (content : Content) (roles : List RoleRow) (old new : Database) → EditedIn old_schema role_tree old new → IsOldContent content old → HasRows (map role_row roles) (new.trees role_tree) → AllByRecursion FitsRole roles → IsOldContent (record content { roles = roles }) new
roles_changed content roles old new e is changed fit =
    let was = is.rows.tables in
    let tables : AreOldTables (record content { roles = roles }) new.trees = record {
      meta = rw (e.others.0 (omega arith)) was.meta;
      people = rw (e.others.1.0 (omega arith)) was.people;
      boards = rw (e.others.1.1.0 (omega arith)) was.boards;
      roles = changed;
      tasks = rw (e.others.1.1.1.1.0 (omega arith)) was.tasks;
      links = rw (e.others.1.1.1.1.1.0 (omega arith)) was.links;
      instances = rw (e.others.1.1.1.1.1.1.0 (omega arith)) was.instances;
      gone = rw (e.others.1.1.1.1.1.1.1.0 (omega arith)) was.gone;
      kept = rw (e.others.1.1.1.1.1.1.1.1.0 (omega arith)) was.kept;
      task_identifiers = was.task_identifiers;
      kept_identifiers = was.kept_identifiers;
      fits = fit_roles (old_part content) roles was.fits fit;
    } in
    record { schema = e.schema; rows = record { sound = e.sound; tables = tables } }

-- ---- the statements

abbrev keyed_terms : List Term
keyed_terms = col 0 0 ∷ lit Null ∷ col 0 1 ∷ col 0 2 ∷ []

abbrev role_terms : List Term
role_terms = lit Null ∷ col 0 0 ∷ col 0 1 ∷ col 0 2 ∷ []

means_person : MeansIn old_schema people.insert_text (Insert 1 (Values keyed_terms 4))
unfolding understood everything
means_person = record { is = refl; bare = (refl, refl) }

pub insert_person : (old new : State) (row : PersonRow) → FitsPerson row → Ran people.insert_text (people.row_params row) old new → (content : Content) → Turns (IsOldContent content) (IsOldContent (with_person row content)) old new
insert_person old new row fits ran content = record {
  shown = ran.1.1;
  made = λ is.
      let effect = row_inserted_in old_schema old_quiet 1 person_plain refl people.insert_text old new is.schema (people.row_params row) ran.0 keyed_terms 4 (person_row row) means_person refl ran.1 in
      people_changed content (row ∷ content.people) old.now new.now effect.1 is
      (keyed_put old_schema old.now.trees new.now.trees person_table (person_row row) (pos row.id) (Null ∷ Text row.name ∷ Text row.secret ∷ []) _ (rw (cast_null, cast_integer (pos row.id)) refl) effect.0 is.rows.tables.people) (fits, is.rows.tables.fits.people);
}

means_board : MeansIn old_schema boards.insert_text (Insert 2 (Values keyed_terms 4))
unfolding understood everything
means_board = record { is = refl; bare = (refl, refl) }

pub insert_board : (old new : State) (row : BoardRow) → FitsBoard row → Ran boards.insert_text (boards.row_params row) old new → (content : Content) → Turns (IsOldContent content) (IsOldContent (with_board row content)) old new
insert_board old new row fits ran content = record {
  shown = ran.1.1;
  made = λ is.
      let effect = row_inserted_in old_schema old_quiet 2 board_plain refl boards.insert_text old new is.schema (boards.row_params row) ran.0 keyed_terms 4 (board_row row) means_board refl ran.1 in
      boards_changed content (row ∷ content.boards) old.now new.now effect.1 is
      (keyed_put old_schema old.now.trees new.now.trees board_table (board_row row) (pos row.id) (Null ∷ Text row.title ∷ Int (pos row.low) ∷ []) _ (rw (cast_null, cast_integer (pos row.id), cast_integer (pos row.low)) refl) effect.0 is.rows.tables.boards) (fits, is.rows.tables.fits.boards);
}

means_role : MeansIn old_schema roles.insert_text (Insert 3 (Values role_terms 4))
unfolding understood everything
means_role = record { is = refl; bare = (refl, refl) }

pub insert_role : (old new : State) (row : RoleRow) → FitsRole row → Ran roles.insert_text (role_row row) old new → (content : Content) → Turns (IsOldContent content) (IsOldContent (with_role row content)) old new
insert_role old new row fits ran content = record {
  shown = ran.1.1;
  made = λ is.
      let effect = row_inserted_in old_schema old_quiet 3 role_plain refl roles.insert_text old new is.schema (role_row row) ran.0 role_terms 4 (Null ∷ role_row row) means_role refl ran.1 in
      roles_changed content (row ∷ content.roles) old.now new.now effect.1 is
      (row_put old_schema old.now.trees new.now.trees role_table (Null ∷ role_row row) (role_row row) _ (rw (cast_null, cast_integer (pos row.board), cast_integer (pos row.person), cast_integer (pos row.kind)) refl) effect.0 is.rows.tables.roles) (fits, is.rows.tables.fits.roles);
}
