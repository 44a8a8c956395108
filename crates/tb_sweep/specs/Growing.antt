-- What is known of a board that gets instances.
use Rattle.std.specs.Prelude.{Bool, List}
use Rattle.tb_board.specs.Marks.{Knows}
use Rattle.tb_sweep.specs.declared.growing.Growing.{Growing}
use Rattle.tb_sweep.specs.Counts.{AreCounts}

-- the marks tell of its free numbers from the next on, and its counts are known
pub record IsGrowing (marks : List Bool) (g : Growing) : Type 0 where
  pub knows : Knows g.draft.board marks g.next
  pub counts : AreCounts g.draft.board g.counts
