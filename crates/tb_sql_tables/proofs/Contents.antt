-- What a statement on one table leaves of the content.
use Rattle.std.proofs.Common.{◌≡◌, List, map, arith}
use Rattle.std.specs.List.{AllByRecursion}
use Rattle.sqlite.specs.Effect.{Database}
use Rattle.tb_sql_tables.specs.declared.rows.PersonRow.{PersonRow}
use Rattle.tb_sql_tables.specs.declared.rows.BoardRow.{BoardRow}
use Rattle.tb_sql_tables.specs.declared.rows.RoleRow.{RoleRow}
use Rattle.tb_sql_tables.specs.declared.rows.TaskRow.{TaskRow}
use Rattle.tb_sql_tables.specs.declared.rows.LinkRow.{LinkRow}
use Rattle.tb_sql_tables.specs.declared.rows.InstanceRow.{InstanceRow}
use Rattle.tb_sql_tables.specs.declared.rows.GoneRow.{GoneRow}
use Rattle.tb_sql_tables.specs.declared.rows.KeptRow.{KeptRow}
use Rattle.tb_sql_tables.specs.declared.rows.HorizonRow.{HorizonRow}
use Rattle.tb_sql_tables.specs.declared.rows.HistoryRow.{HistoryRow}
use Rattle.tb_sql_tables.specs.Tables.{person_tree, board_tree, role_tree, task_tree, link_tree, instance_tree, gone_tree, kept_tree, horizon_tree, history_tree}
use Rattle.tb_sql_tables.specs.Rows.{person_row, board_row, role_row, task_row, link_row, instance_row, gone_row, kept_row, horizon_row, history_row}
use Rattle.tb_sql_tables.specs.Content.{Content, HasRows, HasKeyed, HaveIdentifiers, AreIdentified, AreCalled, AreTables, IsContent}
use Rattle.tb_sql_tables.specs.Fitting.{FitsBoard, FitsEntry, FitsGone, FitsHorizon, FitsInstance, FitsKept, FitsLink, FitsPerson, FitsRole, FitsTask}
use Rattle.tb_sql_tables.proofs.Fitted.{fit_people, fit_boards, fit_roles, fit_tasks, fit_links, fit_instances, fit_gone, fit_kept, fit_horizon, fit_history}
use Rattle.tb_sql_tables.proofs.Statements.{Edited}

pub people_changed : (content : Content) (people : List PersonRow) (old new : Database) → Edited person_tree old new → IsContent content old → HasKeyed (map person_row people) (new.trees person_tree) → AllByRecursion FitsPerson people → IsContent (record content { people = people }) new
people_changed content people old new e is changed fit =
    let was = is.rows.tables in
    let tables : AreTables (record content { people = people }) new.trees = record {
      meta = rw (e.others.0 (omega arith)) was.meta;
      people = changed;
      boards = rw (e.others.1.1.0 (omega arith)) was.boards;
      roles = rw (e.others.1.1.1.0 (omega arith)) was.roles;
      tasks = rw (e.others.1.1.1.1.0 (omega arith)) was.tasks;
      links = rw (e.others.1.1.1.1.1.0 (omega arith)) was.links;
      instances = rw (e.others.1.1.1.1.1.1.0 (omega arith)) was.instances;
      gone = rw (e.others.1.1.1.1.1.1.1.0 (omega arith)) was.gone;
      kept = rw (e.others.1.1.1.1.1.1.1.1.0 (omega arith)) was.kept;
      horizon = rw (e.others.1.1.1.1.1.1.1.1.1.0 (omega arith)) was.horizon;
      history = rw (e.others.1.1.1.1.1.1.1.1.1.1.0 (omega arith)) was.history;
      task_identifiers = was.task_identifiers;
      kept_identifiers = was.kept_identifiers;
      history_identifiers = was.history_identifiers;
      fits = fit_people content people was.fits fit;
    } in
    record { schema = e.schema; rows = record { sound = e.sound; tables = tables } }

pub boards_changed : (content : Content) (boards : List BoardRow) (old new : Database) → Edited board_tree old new → IsContent content old → HasKeyed (map board_row boards) (new.trees board_tree) → AllByRecursion FitsBoard boards → IsContent (record content { boards = boards }) new
boards_changed content boards old new e is changed fit =
    let was = is.rows.tables in
    let tables : AreTables (record content { boards = boards }) new.trees = record {
      meta = rw (e.others.0 (omega arith)) was.meta;
      people = rw (e.others.1.0 (omega arith)) was.people;
      boards = changed;
      roles = rw (e.others.1.1.1.0 (omega arith)) was.roles;
      tasks = rw (e.others.1.1.1.1.0 (omega arith)) was.tasks;
      links = rw (e.others.1.1.1.1.1.0 (omega arith)) was.links;
      instances = rw (e.others.1.1.1.1.1.1.0 (omega arith)) was.instances;
      gone = rw (e.others.1.1.1.1.1.1.1.0 (omega arith)) was.gone;
      kept = rw (e.others.1.1.1.1.1.1.1.1.0 (omega arith)) was.kept;
      horizon = rw (e.others.1.1.1.1.1.1.1.1.1.0 (omega arith)) was.horizon;
      history = rw (e.others.1.1.1.1.1.1.1.1.1.1.0 (omega arith)) was.history;
      task_identifiers = was.task_identifiers;
      kept_identifiers = was.kept_identifiers;
      history_identifiers = was.history_identifiers;
      fits = fit_boards content boards was.fits fit;
    } in
    record { schema = e.schema; rows = record { sound = e.sound; tables = tables } }

pub roles_changed : (content : Content) (roles : List RoleRow) (old new : Database) → Edited role_tree old new → IsContent content old → HasRows (map role_row roles) (new.trees role_tree) → AllByRecursion FitsRole roles → IsContent (record content { roles = roles }) new
roles_changed content roles old new e is changed fit =
    let was = is.rows.tables in
    let tables : AreTables (record content { roles = roles }) new.trees = record {
      meta = rw (e.others.0 (omega arith)) was.meta;
      people = rw (e.others.1.0 (omega arith)) was.people;
      boards = rw (e.others.1.1.0 (omega arith)) was.boards;
      roles = changed;
      tasks = rw (e.others.1.1.1.1.0 (omega arith)) was.tasks;
      links = rw (e.others.1.1.1.1.1.0 (omega arith)) was.links;
      instances = rw (e.others.1.1.1.1.1.1.0 (omega arith)) was.instances;
      gone = rw (e.others.1.1.1.1.1.1.1.0 (omega arith)) was.gone;
      kept = rw (e.others.1.1.1.1.1.1.1.1.0 (omega arith)) was.kept;
      horizon = rw (e.others.1.1.1.1.1.1.1.1.1.0 (omega arith)) was.horizon;
      history = rw (e.others.1.1.1.1.1.1.1.1.1.1.0 (omega arith)) was.history;
      task_identifiers = was.task_identifiers;
      kept_identifiers = was.kept_identifiers;
      history_identifiers = was.history_identifiers;
      fits = fit_roles content roles was.fits fit;
    } in
    record { schema = e.schema; rows = record { sound = e.sound; tables = tables } }

pub tasks_changed : (content : Content) (tasks : List TaskRow) (old new : Database) → Edited task_tree old new → IsContent content old → HasRows (map task_row tasks) (new.trees task_tree) → HaveIdentifiers tasks → AllByRecursion FitsTask tasks → IsContent (record content { tasks = tasks }) new
tasks_changed content tasks old new e is changed identified fit =
    let was = is.rows.tables in
    let tables : AreTables (record content { tasks = tasks }) new.trees = record {
      meta = rw (e.others.0 (omega arith)) was.meta;
      people = rw (e.others.1.0 (omega arith)) was.people;
      boards = rw (e.others.1.1.0 (omega arith)) was.boards;
      roles = rw (e.others.1.1.1.0 (omega arith)) was.roles;
      tasks = changed;
      links = rw (e.others.1.1.1.1.1.0 (omega arith)) was.links;
      instances = rw (e.others.1.1.1.1.1.1.0 (omega arith)) was.instances;
      gone = rw (e.others.1.1.1.1.1.1.1.0 (omega arith)) was.gone;
      kept = rw (e.others.1.1.1.1.1.1.1.1.0 (omega arith)) was.kept;
      horizon = rw (e.others.1.1.1.1.1.1.1.1.1.0 (omega arith)) was.horizon;
      history = rw (e.others.1.1.1.1.1.1.1.1.1.1.0 (omega arith)) was.history;
      task_identifiers = identified;
      kept_identifiers = was.kept_identifiers;
      history_identifiers = was.history_identifiers;
      fits = fit_tasks content tasks was.fits fit;
    } in
    record { schema = e.schema; rows = record { sound = e.sound; tables = tables } }

pub links_changed : (content : Content) (links : List LinkRow) (old new : Database) → Edited link_tree old new → IsContent content old → HasRows (map link_row links) (new.trees link_tree) → AllByRecursion FitsLink links → IsContent (record content { links = links }) new
links_changed content links old new e is changed fit =
    let was = is.rows.tables in
    let tables : AreTables (record content { links = links }) new.trees = record {
      meta = rw (e.others.0 (omega arith)) was.meta;
      people = rw (e.others.1.0 (omega arith)) was.people;
      boards = rw (e.others.1.1.0 (omega arith)) was.boards;
      roles = rw (e.others.1.1.1.0 (omega arith)) was.roles;
      tasks = rw (e.others.1.1.1.1.0 (omega arith)) was.tasks;
      links = changed;
      instances = rw (e.others.1.1.1.1.1.1.0 (omega arith)) was.instances;
      gone = rw (e.others.1.1.1.1.1.1.1.0 (omega arith)) was.gone;
      kept = rw (e.others.1.1.1.1.1.1.1.1.0 (omega arith)) was.kept;
      horizon = rw (e.others.1.1.1.1.1.1.1.1.1.0 (omega arith)) was.horizon;
      history = rw (e.others.1.1.1.1.1.1.1.1.1.1.0 (omega arith)) was.history;
      task_identifiers = was.task_identifiers;
      kept_identifiers = was.kept_identifiers;
      history_identifiers = was.history_identifiers;
      fits = fit_links content links was.fits fit;
    } in
    record { schema = e.schema; rows = record { sound = e.sound; tables = tables } }

pub instances_changed : (content : Content) (instances : List InstanceRow) (old new : Database) → Edited instance_tree old new → IsContent content old → HasRows (map instance_row instances) (new.trees instance_tree) → AllByRecursion FitsInstance instances → IsContent (record content { instances = instances }) new
instances_changed content instances old new e is changed fit =
    let was = is.rows.tables in
    let tables : AreTables (record content { instances = instances }) new.trees = record {
      meta = rw (e.others.0 (omega arith)) was.meta;
      people = rw (e.others.1.0 (omega arith)) was.people;
      boards = rw (e.others.1.1.0 (omega arith)) was.boards;
      roles = rw (e.others.1.1.1.0 (omega arith)) was.roles;
      tasks = rw (e.others.1.1.1.1.0 (omega arith)) was.tasks;
      links = rw (e.others.1.1.1.1.1.0 (omega arith)) was.links;
      instances = changed;
      gone = rw (e.others.1.1.1.1.1.1.1.0 (omega arith)) was.gone;
      kept = rw (e.others.1.1.1.1.1.1.1.1.0 (omega arith)) was.kept;
      horizon = rw (e.others.1.1.1.1.1.1.1.1.1.0 (omega arith)) was.horizon;
      history = rw (e.others.1.1.1.1.1.1.1.1.1.1.0 (omega arith)) was.history;
      task_identifiers = was.task_identifiers;
      kept_identifiers = was.kept_identifiers;
      history_identifiers = was.history_identifiers;
      fits = fit_instances content instances was.fits fit;
    } in
    record { schema = e.schema; rows = record { sound = e.sound; tables = tables } }

pub gone_changed : (content : Content) (gone : List GoneRow) (old new : Database) → Edited gone_tree old new → IsContent content old → HasRows (map gone_row gone) (new.trees gone_tree) → AllByRecursion FitsGone gone → IsContent (record content { gone = gone }) new
gone_changed content gone old new e is changed fit =
    let was = is.rows.tables in
    let tables : AreTables (record content { gone = gone }) new.trees = record {
      meta = rw (e.others.0 (omega arith)) was.meta;
      people = rw (e.others.1.0 (omega arith)) was.people;
      boards = rw (e.others.1.1.0 (omega arith)) was.boards;
      roles = rw (e.others.1.1.1.0 (omega arith)) was.roles;
      tasks = rw (e.others.1.1.1.1.0 (omega arith)) was.tasks;
      links = rw (e.others.1.1.1.1.1.0 (omega arith)) was.links;
      instances = rw (e.others.1.1.1.1.1.1.0 (omega arith)) was.instances;
      gone = changed;
      kept = rw (e.others.1.1.1.1.1.1.1.1.0 (omega arith)) was.kept;
      horizon = rw (e.others.1.1.1.1.1.1.1.1.1.0 (omega arith)) was.horizon;
      history = rw (e.others.1.1.1.1.1.1.1.1.1.1.0 (omega arith)) was.history;
      task_identifiers = was.task_identifiers;
      kept_identifiers = was.kept_identifiers;
      history_identifiers = was.history_identifiers;
      fits = fit_gone content gone was.fits fit;
    } in
    record { schema = e.schema; rows = record { sound = e.sound; tables = tables } }

pub kept_changed : (content : Content) (kept : List KeptRow) (old new : Database) → Edited kept_tree old new → IsContent content old → HasRows (map kept_row kept) (new.trees kept_tree) → AreIdentified kept → AllByRecursion FitsKept kept → IsContent (record content { kept = kept }) new
kept_changed content kept old new e is changed identified fit =
    let was = is.rows.tables in
    let tables : AreTables (record content { kept = kept }) new.trees = record {
      meta = rw (e.others.0 (omega arith)) was.meta;
      people = rw (e.others.1.0 (omega arith)) was.people;
      boards = rw (e.others.1.1.0 (omega arith)) was.boards;
      roles = rw (e.others.1.1.1.0 (omega arith)) was.roles;
      tasks = rw (e.others.1.1.1.1.0 (omega arith)) was.tasks;
      links = rw (e.others.1.1.1.1.1.0 (omega arith)) was.links;
      instances = rw (e.others.1.1.1.1.1.1.0 (omega arith)) was.instances;
      gone = rw (e.others.1.1.1.1.1.1.1.0 (omega arith)) was.gone;
      kept = changed;
      horizon = rw (e.others.1.1.1.1.1.1.1.1.1.0 (omega arith)) was.horizon;
      history = rw (e.others.1.1.1.1.1.1.1.1.1.1.0 (omega arith)) was.history;
      task_identifiers = was.task_identifiers;
      kept_identifiers = identified;
      history_identifiers = was.history_identifiers;
      fits = fit_kept content kept was.fits fit;
    } in
    record { schema = e.schema; rows = record { sound = e.sound; tables = tables } }

pub horizon_changed : (content : Content) (horizon : List HorizonRow) (old new : Database) → Edited horizon_tree old new → IsContent content old → HasKeyed (map horizon_row horizon) (new.trees horizon_tree) → AllByRecursion FitsHorizon horizon → IsContent (record content { horizon = horizon }) new
horizon_changed content horizon old new e is changed fit =
    let was = is.rows.tables in
    let tables : AreTables (record content { horizon = horizon }) new.trees = record {
      meta = rw (e.others.0 (omega arith)) was.meta;
      people = rw (e.others.1.0 (omega arith)) was.people;
      boards = rw (e.others.1.1.0 (omega arith)) was.boards;
      roles = rw (e.others.1.1.1.0 (omega arith)) was.roles;
      tasks = rw (e.others.1.1.1.1.0 (omega arith)) was.tasks;
      links = rw (e.others.1.1.1.1.1.0 (omega arith)) was.links;
      instances = rw (e.others.1.1.1.1.1.1.0 (omega arith)) was.instances;
      gone = rw (e.others.1.1.1.1.1.1.1.0 (omega arith)) was.gone;
      kept = rw (e.others.1.1.1.1.1.1.1.1.0 (omega arith)) was.kept;
      horizon = changed;
      history = rw (e.others.1.1.1.1.1.1.1.1.1.1.0 (omega arith)) was.history;
      task_identifiers = was.task_identifiers;
      kept_identifiers = was.kept_identifiers;
      history_identifiers = was.history_identifiers;
      fits = fit_horizon content horizon was.fits fit;
    } in
    record { schema = e.schema; rows = record { sound = e.sound; tables = tables } }

pub history_changed : (content : Content) (history : List HistoryRow) (old new : Database) → Edited history_tree old new → IsContent content old → HasRows (map history_row history) (new.trees history_tree) → AreCalled history → AllByRecursion FitsEntry history → IsContent (record content { history = history }) new
history_changed content history old new e is changed identified fit =
    let was = is.rows.tables in
    let tables : AreTables (record content { history = history }) new.trees = record {
      meta = rw (e.others.0 (omega arith)) was.meta;
      people = rw (e.others.1.0 (omega arith)) was.people;
      boards = rw (e.others.1.1.0 (omega arith)) was.boards;
      roles = rw (e.others.1.1.1.0 (omega arith)) was.roles;
      tasks = rw (e.others.1.1.1.1.0 (omega arith)) was.tasks;
      links = rw (e.others.1.1.1.1.1.0 (omega arith)) was.links;
      instances = rw (e.others.1.1.1.1.1.1.0 (omega arith)) was.instances;
      gone = rw (e.others.1.1.1.1.1.1.1.0 (omega arith)) was.gone;
      kept = rw (e.others.1.1.1.1.1.1.1.1.0 (omega arith)) was.kept;
      horizon = rw (e.others.1.1.1.1.1.1.1.1.1.0 (omega arith)) was.horizon;
      history = changed;
      task_identifiers = was.task_identifiers;
      kept_identifiers = was.kept_identifiers;
      history_identifiers = identified;
      fits = fit_history content history was.fits fit;
    } in
    record { schema = e.schema; rows = record { sound = e.sound; tables = tables } }
