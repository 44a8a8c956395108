-- The world of a state is read from its rows.
use Rattle.std.proofs.lemmas.List.Sorted.{IsPermutation-sym}
use Rattle.tb_calls.specs.Call.{State}
use Rattle.tb_rows.specs.Laws.{AreFoundAgain, IsWorldRead}
use Rattle.tb_rows.specs.Rows.{world_rows, HaveSameRows}
use Rattle.tb_sql_tables.specs.Content.{Content}
use Rattle.tb_lookup.specs.Stored.{state_rows, AreRowsOf}

-- the world of a state is read in each content that has its rows
pub world_is_read : AreFoundAgain → (s : State) (content : Content) → AreRowsOf s content → IsWorldRead s.world content
world_is_read found s content of_s = found s.world content of_s.good of_s.form (turned of_s.same.tables)
  where
    turned : HaveSameRows content (state_rows s) → HaveSameRows (world_rows s.world) content
    turned same = record {
      people = IsPermutation-sym _ _ same.people;
      boards = IsPermutation-sym _ _ same.boards;
      roles = IsPermutation-sym _ _ same.roles;
      tasks = IsPermutation-sym _ _ same.tasks;
      links = IsPermutation-sym _ _ same.links;
      instances = IsPermutation-sym _ _ same.instances;
      gone = IsPermutation-sym _ _ same.gone;
      horizon = IsPermutation-sym _ _ same.horizon;
    }
