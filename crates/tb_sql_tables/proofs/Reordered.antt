-- A content is its rows in any order.
use Rattle.std.proofs.Common.{◌≡◌, List, map, IsPermutation}
use Rattle.std.proofs.lemmas.List.Elements.{All-from_recursion, recursion_from_All}
use Rattle.std.proofs.lemmas.List.Sorted.{IsPermutation-map, IsPermutation-sym, IsPermutation-trans, All-permutation}
use Rattle.std.specs.List.{AllByRecursion}
use Rattle.sqlite_value.specs.Order.{Row}
use Rattle.sqlite_trees.specs.Tree.{Trees}
use Rattle.sqlite.specs.State.{State}
use Rattle.tb_sql_tables.specs.Rows.{person_row, board_row, role_row, task_row, link_row, instance_row, gone_row, kept_row, horizon_row, history_row}
use Rattle.tb_sql_tables.specs.Content.{Content, HasRows, HasKeyed, AreTables, AreRows, IsFitting, Stands}

-- the same rows in another order
pub record AreReordered (a b : Content) : Type 0 where
  pub people : IsPermutation a.people b.people
  pub boards : IsPermutation a.boards b.boards
  pub roles : IsPermutation a.roles b.roles
  pub tasks : IsPermutation a.tasks b.tasks
  pub links : IsPermutation a.links b.links
  pub instances : IsPermutation a.instances b.instances
  pub gone : IsPermutation a.gone b.gone
  pub kept : IsPermutation a.kept b.kept
  pub horizon : IsPermutation a.horizon b.horizon
  pub history : IsPermutation a.history b.history

rows_in : {X : Type 0} (row_of : X → Row) (xs ys : List X) (stored : List Row) → IsPermutation xs ys → HasRows (map row_of xs) stored → HasRows (map row_of ys) stored
rows_in row_of xs ys stored other h = record { shaped = h.shaped; same = IsPermutation-trans _ _ _ (IsPermutation-map row_of _ _ (IsPermutation-sym xs ys other)) h.same }

keyed_in : {X : Type 0} (row_of : X → Row) (xs ys : List X) (stored : List Row) → IsPermutation xs ys → HasKeyed (map row_of xs) stored → HasKeyed (map row_of ys) stored
keyed_in row_of xs ys stored other h = record { shaped = h.shaped; same = IsPermutation-trans _ _ _ (IsPermutation-map row_of _ _ (IsPermutation-sym xs ys other)) h.same }

all_in : {X : Type 0} (P : X → Type 0) (xs ys : List X) → IsPermutation xs ys → AllByRecursion P xs → AllByRecursion P ys
all_in P xs ys other all = recursion_from_All P ys (All-permutation P xs ys other (All-from_recursion P xs all))

fitting : (a b : Content) → AreReordered a b → IsFitting a → IsFitting b
fitting a b other was = record {
  people = all_in _ _ _ other.people was.people;
  boards = all_in _ _ _ other.boards was.boards;
  roles = all_in _ _ _ other.roles was.roles;
  tasks = all_in _ _ _ other.tasks was.tasks;
  links = all_in _ _ _ other.links was.links;
  instances = all_in _ _ _ other.instances was.instances;
  gone = all_in _ _ _ other.gone was.gone;
  kept = all_in _ _ _ other.kept was.kept;
  horizon = all_in _ _ _ other.horizon was.horizon;
  history = all_in _ _ _ other.history was.history;
}

pub reordered : (a b : Content) (db : Trees) → AreReordered a b → AreRows a db → AreRows b db
reordered a b db other is =
    let was = is.tables in
    let tables : AreTables b db = record {
      meta = was.meta;
      people = keyed_in person_row _ _ _ other.people was.people;
      boards = keyed_in board_row _ _ _ other.boards was.boards;
      roles = rows_in role_row _ _ _ other.roles was.roles;
      tasks = rows_in task_row _ _ _ other.tasks was.tasks;
      links = rows_in link_row _ _ _ other.links was.links;
      instances = rows_in instance_row _ _ _ other.instances was.instances;
      gone = rows_in gone_row _ _ _ other.gone was.gone;
      kept = rows_in kept_row _ _ _ other.kept was.kept;
      horizon = keyed_in horizon_row _ _ _ other.horizon was.horizon;
      history = rows_in history_row _ _ _ other.history was.history;
      task_identifiers = all_in _ _ _ other.tasks was.task_identifiers;
      kept_identifiers = all_in _ _ _ other.kept was.kept_identifiers;
      history_identifiers = all_in _ _ _ other.history was.history_identifiers;
      fits = fitting a b other was.fits;
    } in
    record { sound = is.sound; tables = tables }

pub reordered_stands : (a b : Content) (s : State) → AreReordered a b → Stands a s → Stands b s
reordered_stands a b s other stands = record {
  seen = λ clean is_open.
      let was = stands.seen clean is_open in
      (record { schema = was.0.schema; rows = reordered a b s.now.trees other was.0.rows }, was.1);
  left = λ clean db may. reordered a b db other (stands.left clean db may);
}
