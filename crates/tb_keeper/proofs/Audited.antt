-- What an audit tells of a state.
use Rattle.std.proofs.Common.{◌≡◌, ◌+◌, ◌==◌, ℕ, List, [], ◌∷◌, Option, Some, None, Result, Ok, Err, filter, length, map, flat_map, inr, refl, ap, subst, IsPermutation}
use Rattle.std.specs.Prelude.{IfOk}
use Rattle.std.specs.List.{AllByRecursion}
use Rattle.std.proofs.lemmas.List.Sorted.{IsPermutation-map, IsPermutation-sym}
use Rattle.sqlite_keyed.proofs.ListLemmas.{all-append, IsPermutation-filter}
use Rattle.sqlite.proofs.Callers.{one_permutation}
use Rattle.sqlite.specs.State.{HasCleanDisk, State as Database}
use Rattle.tb_task.specs.TaskId.{IsRead}
use Rattle.tb_board.specs.declared.board.Board.{Board}
use Rattle.tb_board.specs.declared.world.World.{World}
use Rattle.tb_core.specs.GoodWorld.{IsGoodWorld}
use Rattle.tb_calls.specs.Call.{State}
use Rattle.tb_rows.specs.Forms.{HasForm}
use Rattle.tb_rows.proofs.Joined.{numbered_from, own_rows}
use Rattle.tb_rows.proofs.ReadBoards.{own_horizon, own_tasks}
use Rattle.tb_rows.specs.Rows.{rows_from, world_rows, board_row, horizon_row, board_tasks, board_links, board_instances, link_row, link_rows, instance_rows, instance_rows_of, HaveSameRows}
use Rattle.tb_sql.specs.Changes.{is_board, is_horizon, IsBoardBefore}
use Rattle.tb_sql.specs.Opening.{IsAsBefore}
use Rattle.tb_sql.proofs.Opened.{stands_again}
use Rattle.tb_sql_tables.specs.declared.rows.BoardRow.{BoardRow}
use Rattle.tb_sql_tables.specs.declared.rows.TaskRow.{TaskRow}
use Rattle.tb_sql_tables.specs.declared.rows.LinkRow.{LinkRow}
use Rattle.tb_sql_tables.specs.declared.rows.InstanceRow.{InstanceRow}
use Rattle.tb_sql_tables.specs.Content.{AreRows, Content, IsContent, Stands}
use Rattle.tb_sql_tables.specs.Found.{AreFound}
use Rattle.tb_keeper.specs.declared.auditing.Audit.{Audit}
use Rattle.tb_keeper.specs.Auditing.{is_instance_on, is_link_on, sound, without_low, without_mask, HasBoardsOf, HasHorizonOrNone, HasItsRows, HasItsTables, StandFor, Tells}
use Rattle.tb_keeper.specs.SoundHistories.{IsSoundHistory}
use Rattle.tb_lookup.specs.Reopening.{OfContent}
use Rattle.tb_lookup.specs.Stored.{AreRowsOf, IsStored}
use Rattle.tb_keeper.proofs.Counting.{no_faults}
use Rattle.tb_keeper.proofs.FoundBoards.{boards_stand}
use Rattle.tb_keeper.proofs.SoundStates.{sound_histories}

-- two facts of what is answered give a third
pub both_ok : {X E : Type 0} (r : Result X E) (P Q R : X → Type 0) → IfOk r P → IfOk r Q → ((x : X) → P x → Q x → R x) → IfOk r R
both_ok (Ok x) P Q R p q give = give x p q
both_ok (Err e) P Q R p q give = p

-- ---- each board of a world has its rows in the rows of the world

all_from : {A B : Type 0} (P : B → Type 0) (f : ℕ → A → List B) → ((n : ℕ) (x : A) → AllByRecursion P (f n x)) → (n : ℕ) (xs : List A) → AllByRecursion P (rows_from f n xs)
all_from P f each n [] = tt
all_from P f each n (x ∷ xs) = all-append P (f n x) (rows_from f (n + 1) xs) (each n x) (all_from P f each (n + 1) xs)

own_links : (b : Board) → AllByRecursion (λ (row : LinkRow). row.board ≡ b.number) (board_links b)
own_links b = all_from (λ (row : LinkRow). row.board ≡ b.number) (link_rows b) (λ n t. each n t.depends) 1 b.tasks
  where
    each : (n : ℕ) (ids : List ℕ) → AllByRecursion (λ (row : LinkRow). row.board ≡ b.number) (map (link_row b n) ids)
    each n [] = tt
    each n (id ∷ ids) = (refl, each n ids)

pub own_instances : (b : Board) → AllByRecursion (λ (row : InstanceRow). row.board ≡ b.number) (board_instances b)
own_instances b = all_from (λ (row : InstanceRow). row.board ≡ b.number) (instance_rows b) (λ n t. each n t.parent t.imask) 1 b.tasks
  where
    each : (n : ℕ) (parent imask : Option ℕ) → AllByRecursion (λ (row : InstanceRow). row.board ≡ b.number) (instance_rows_of b n parent imask)
    each n None imask = tt
    each n (Some parent) None = tt
    each n (Some parent) (Some imask) = (refl, tt)

row_each : (bs : List Board) → flat_map (λ (b : Board). board_row b ∷ []) bs ≡ map board_row bs
row_each [] = refl
row_each (b ∷ bs) = ap (λ l. board_row b ∷ l) (row_each bs)

module _ (c : Content) (w : World) (same : HaveSameRows c (world_rows w)) where
  each_has : (bs : List Board) → AllByRecursion (λ (b : Board). filter (is_board b.number) (world_rows w).boards ≡ board_row b ∷ []) bs
      → AllByRecursion (λ (b : Board). filter (is_horizon b.number) (world_rows w).horizon ≡ horizon_row b ∷ []) bs
      → AllByRecursion (λ (b : Board). filter (λ (r : TaskRow). r.board == b.number) (world_rows w).tasks ≡ board_tasks b) bs
      → AllByRecursion (λ (b : Board). filter (is_link_on b.number) (world_rows w).links ≡ board_links b) bs
      → AllByRecursion (λ (b : Board). filter (is_instance_on b.number) (world_rows w).instances ≡ board_instances b) bs → AllByRecursion (HasItsTables c) bs
  each_has [] rows horizons tasks links instances = tt
  each_has (b ∷ bs) rows horizons tasks links instances = (
    record {
      row_is = subst (IsPermutation _) rows.0 (IsPermutation-filter (is_board b.number) _ _ same.boards);
      horizon_is = subst (IsPermutation _) horizons.0 (IsPermutation-filter (is_horizon b.number) _ _ same.horizon);
      tasks_are = subst (IsPermutation _) tasks.0 (IsPermutation-filter (λ (r : TaskRow). r.board == b.number) _ _ same.tasks);
      links_are = subst (IsPermutation _) links.0 (IsPermutation-filter (is_link_on b.number) _ _ same.links);
      instances_are = subst (IsPermutation _) instances.0 (IsPermutation-filter (is_instance_on b.number) _ _ same.instances);
    },
    each_has bs rows.1 horizons.1 tasks.1 links.1 instances.1,
  )

  all_have : IsGoodWorld w → AllByRecursion (HasItsTables c) w.boards
  all_have good =
      let numbered = numbered_from 1 w.boards good.numbered in
      let rows = subst (λ l. AllByRecursion (λ (b : Board). filter (is_board b.number) l ≡ board_row b ∷ []) w.boards) (row_each w.boards)
      (own_rows (λ (row : BoardRow). row.id) (λ b. board_row b ∷ []) (λ b. (refl, tt)) 1 w.boards numbered) in
      each_has w.boards rows (own_horizon 1 w.boards numbered) (own_rows (λ (row : TaskRow). row.board) board_tasks own_tasks 1 w.boards numbered) (own_rows (λ (row : LinkRow). row.board) board_links own_links 1 w.boards numbered)
      (own_rows (λ (row : InstanceRow). row.board) board_instances own_instances 1 w.boards numbered)

  each_looks : (bs : List Board) → AllByRecursion (λ (b : Board). filter (is_horizon b.number) (world_rows w).horizon ≡ horizon_row b ∷ []) bs → AllByRecursion (HasHorizonOrNone c) bs
  each_looks [] own = tt
  each_looks (b ∷ bs) own = (
    inr (one_permutation (horizon_row b) _ (subst (λ l. IsPermutation l (filter (is_horizon b.number) c.horizon)) own.0 (IsPermutation-filter (is_horizon b.number) _ _ (IsPermutation-sym _ _ same.horizon)))),
    each_looks bs own.1,
  )

  has_boards : IsGoodWorld w → HasBoardsOf w c
  has_boards good = record {
    boards = IsPermutation-map without_low _ _ same.boards;
    tasks = IsPermutation-map without_mask _ _ same.tasks;
    gone = same.gone;
    horizon = each_looks w.boards (own_horizon 1 w.boards (numbered_from 1 w.boards good.numbered));
  }

world_tables : (s : State) (c : Content) → AreRowsOf s c → HaveSameRows c (world_rows s.world)
world_tables s c of_s =
    let t = of_s.same.tables in
    record { people = t.people; boards = t.boards; roles = t.roles; tasks = t.tasks; links = t.links; instances = t.instances; gone = t.gone; horizon = t.horizon }

-- where each board has its tables and a sound history, it has its rows
both_have : (c : Content) (bs : List Board) → AllByRecursion (HasItsTables c) bs → AllByRecursion (λ (b : Board). IsSoundHistory c b.number (length b.tasks)) bs → AllByRecursion (HasItsRows c) bs
both_have c [] tables histories = tt
both_have c (b ∷ bs) tables histories = (record { tables = tables.0; history = histories.0 }, both_have c bs tables.1 histories.1)

-- on the rows of a state there are no faults
pub audit_sound : (old new : Database) (audit : Audit) → OfContent old new (λ c. (w : World) → IsGoodWorld w → HasForm w → HasBoardsOf w c → Tells c w.boards audit)
    → HasCleanDisk new → (s : State) → IsStored s old → audit ≡ sound s.world
audit_sound old new audit counted clean s stored =
    let same = world_tables s stored.content stored.rows in
    let tells = counted clean stored.content stored.stands s.world stored.rows.good stored.rows.form (has_boards stored.content s.world same stored.rows.good) in
    let each = both_have stored.content s.world.boards (all_have stored.content s.world same stored.rows.good) (sound_histories s stored.content stored.rows) in
    let none = no_faults stored.content s.world.boards audit.faults each tells.faults_are in
    λ i.
    let is : Audit = record { boards = tells.boards_are i; tasks = tells.tasks_are i; faults = none i } in
    is

-- the boards of the rows that are found are those of the world
pub counted_all : IsRead → (old mid new : Database) (rows : List BoardRow) → IsAsBefore old mid → (HasCleanDisk mid → (c : Content) → Stands c old → AreFound IsBoardBefore c.boards rows) → IsAsBefore mid new
    → (audit : Audit) → OfContent mid new (λ c. (bs : List Board) → StandFor c rows bs → Tells c bs audit)
    → OfContent old new (λ c. (w : World) → IsGoodWorld w → HasForm w → HasBoardsOf w c → Tells c w.boards audit)
counted_all law old mid new rows one found two audit counted clean c stands w good form has =
    counted clean c (stands_again (IsContent c) (AreRows c) old mid stands one) w.boards (boards_stand law w c has good form rows (found (two.clean clean) c stands))
