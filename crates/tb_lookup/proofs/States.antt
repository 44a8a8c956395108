-- States by their rows.
use Rattle.std.proofs.Common.{◌≡◌, ◌⊎◌, inl, inr, List, map, sym, subst, IsPermutation}
use Rattle.std.specs.List.{AllByRecursion}
use Rattle.std.specs.FinMap.{entries}
use Rattle.std.proofs.lemmas.List.Sorted.{IsPermutation-sym, IsPermutation-trans}
use Rattle.sqlite_trees.specs.Tree.{Trees}
use Rattle.sqlite.specs.State.{State as Database}
use Rattle.tb_calls.specs.Call.{State}
use Rattle.tb_rows.specs.Rows.{world_rows, HaveSameRows}
use Rattle.tb_sql_tables.specs.Content.{AreRows, Content}
use Rattle.tb_lookup.specs.Stored.{kept_row, state_rows, AreRowsOf, IsKnown, IsStored, IsStoredAsEither, MayLeave}
use Rattle.tb_lookup.proofs.KeptRows.{same_replies}
use Rattle.tb_lookup.proofs.SameHistories.{same_histories}
use Rattle.tb_lookup.proofs.SameTables.{same_contents}

meet : (a b c d : Content) → HaveSameRows a c → HaveSameRows b d → HaveSameRows a b → HaveSameRows c d
meet a b c d ac bd ab = record {
  people = via ac.people bd.people ab.people;
  boards = via ac.boards bd.boards ab.boards;
  roles = via ac.roles bd.roles ab.roles;
  tasks = via ac.tasks bd.tasks ab.tasks;
  links = via ac.links bd.links ab.links;
  instances = via ac.instances bd.instances ab.instances;
  gone = via ac.gone bd.gone ab.gone;
  horizon = via ac.horizon bd.horizon ab.horizon;
}
  where
    via : {X : Type 0} {p q r s : List X} → IsPermutation p r → IsPermutation q s → IsPermutation p q → IsPermutation r s
    via pr qs pq = IsPermutation-trans _ _ _ (IsPermutation-sym _ _ pr) (IsPermutation-trans _ _ _ pq qs)

-- the tables of a state but the kept replies and the history are those of its world
plain : (c : Content) (s : State) → HaveSameRows c (state_rows s) → HaveSameRows c (world_rows s.world)
plain c s same = record { people = same.people; boards = same.boards; roles = same.roles; tasks = same.tasks; links = same.links; instances = same.instances; gone = same.gone; horizon = same.horizon }

-- trees are the rows of one state
pub same_states : (s t : State) (a b : Content) (db : Trees) → AreRowsOf s a → AreRowsOf t b → AreRows a db → AreRows b db → s ≡ t
same_states s t a b db of_s of_t is_a is_b =
    let same = same_contents a b db is_a is_b in
    let tables = meet a b (world_rows s.world) (world_rows t.world) (plain a s of_s.same.tables) (plain b t of_t.same.tables) same.tables in
    let world : s.world ≡ t.world = of_s.apart s.world t.world of_s.good of_t.good of_s.form of_t.form tables in
    let rows = IsPermutation-trans _ _ _ (IsPermutation-sym _ _ of_s.same.kept) (IsPermutation-trans _ _ _ same.kept of_t.same.kept) in
    let known : AllByRecursion (IsKnown s.world) (entries t.kept) = subst (λ w. AllByRecursion (IsKnown w) (entries t.kept)) (sym world) of_t.people in
    let rows_of_one = subst (λ w. IsPermutation (map (kept_row s.world) (entries s.kept)) (map (kept_row w) (entries t.kept))) (sym world) rows in
    let kept = same_replies s.world s.kept t.kept of_s.people known rows_of_one in
    let history_rows = IsPermutation-trans _ _ _ (IsPermutation-sym _ _ of_s.same.history) (IsPermutation-trans _ _ _ same.history of_t.same.history) in
    let history = same_histories s t world of_s.histories of_t.histories history_rows in
    λ i. record { world = world i; kept = kept i; history = history i }

-- where the rows of a state are stored, a stop leaves that state
pub stored_alone : (s t : State) (d : Database) → IsStored s d → MayLeave d t → t ≡ s
stored_alone s t d stored may =
    same_states t s may.stored.content stored.content may.trees may.stored.rows stored.rows may.stored.stored (stored.stands.left may.clean may.trees may.left)

-- where those of one of two are, it leaves one of the two
pub either_alone : (s other t : State) (d : Database) → IsStoredAsEither s other d → MayLeave d t → (t ≡ s) ⊎ (t ≡ other)
either_alone s other t d stored may = elim (stored.stands.left may.clean may.trees may.left) [
  | inl is ↦ inl (same_states t s may.stored.content stored.before may.trees may.stored.rows stored.rows_before may.stored.stored is)
  | inr is ↦ inr (same_states t other may.stored.content stored.after may.trees may.stored.rows stored.rows_after may.stored.stored is)
]
