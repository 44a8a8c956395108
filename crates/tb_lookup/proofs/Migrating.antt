-- The rows of the first version become those of the same state.
use Rattle.std.proofs.Common.{◌≡◌, List, [], ◌∷◌, map, refl, ap₂, subst, IsPermutation}
use Rattle.std.specs.FinMap.{empty}
use Rattle.std.specs.List.{AllByRecursion}
use Rattle.std.proofs.lemmas.List.Sorted.{IsPermutation-map}
use Rattle.tb_board.specs.declared.board.Board.{Board}
use Rattle.tb_calls.specs.Call.{State}
use Rattle.tb_rows.specs.Rows.{board_row, horizon_row}
use Rattle.tb_sql.specs.Migrating.{first_horizon, migrated}
use Rattle.tb_sql_tables.specs.Content.{Content}
use Rattle.tb_lookup.specs.Stored.{AreOldRowsOf, AreRowsOf, AreSecondRowsOf}
use Rattle.tb_lookup.proofs.SameHistories.{no_history}

each_first : (bs : List Board) → AllByRecursion (λ (b : Board). b.ahead ≡ 1) bs → map first_horizon (map board_row bs) ≡ map horizon_row bs
each_first [] all = refl
each_first (b ∷ bs) all = ap₂ ◌∷◌ (one b all.0) (each_first bs all.1)
  where
    one : (b : Board) → b.ahead ≡ 1 → first_horizon (board_row b) ≡ horizon_row b
    one b ahead = rw ahead refl

pub migrated_rows : (s : State) (content : Content) → AreOldRowsOf s content → AreRowsOf s (migrated content)
migrated_rows s content old =
    let was = old.rows in
    let same = was.same.tables in
    let horizon : IsPermutation (map first_horizon content.boards) (map horizon_row s.world.boards) =
    subst (IsPermutation (map first_horizon content.boards)) (each_first s.world.boards old.one_ahead) (IsPermutation-map first_horizon _ _ same.boards) in
    record {
      apart = was.apart;
      good = was.good;
      form = was.form;
      people = was.people;
      histories = was.histories;
      same = record {
        tables = record {
          people = same.people;
          boards = same.boards;
          roles = same.roles;
          tasks = same.tasks;
          links = same.links;
          instances = same.instances;
          gone = same.gone;
          horizon = horizon;
        };
        kept = was.same.kept;
        history = was.same.history;
      };
    }

-- states in the tables of a version before have no history
pub old_history : (s : State) (content : Content) → AreOldRowsOf s content → s.history ≡ empty
old_history s content old = no_history s _ old.rows refl

pub second_history : (s : State) (content : Content) → AreSecondRowsOf s content → s.history ≡ empty
second_history s content rows = no_history s _ rows refl
