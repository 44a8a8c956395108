-- What the sweep keeps, and what it adds.
use Rattle.std.specs.Prelude.{◌≡◌, ℕ, false, List, ◌++◌, length}
use Rattle.tb_task.specs.declared.task.Task.{Task}
use Rattle.tb_board.specs.declared.board.Board.{Board}
use Rattle.tb_board.specs.Board.{wake}
use Rattle.tb_board.specs.Good.{IsGood}
use Rattle.tb_sweep.specs.Sweeping.{added, more, sweep}

-- a good board stays good
abbrev pub SweepKeepsGood : Type 0
SweepKeepsGood = (b : Board) (m : ℕ) → IsGood b → IsGood (sweep b m)

-- each task stays at its place, whatever the moment, and the instances that are added go last
abbrev pub SweepAddsLast : Type 0
SweepAddsLast = (b : Board) (m : ℕ)
    → (new : List Task) × ((sweep b m).tasks ≡ (wake b m).tasks ++ new) × (length new ≡ added b m)

-- where no template still lacks an instance, a further sweep at the same moment leaves the board
abbrev pub SweepEnds : Type 0
SweepEnds = (b : Board) (m : ℕ) → more (sweep b m) m ≡ false → sweep (sweep b m) m ≡ sweep b m
