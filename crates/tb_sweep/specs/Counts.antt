-- How many places the templates of a board have.
use Rattle.std.specs.Prelude.{◌≡◌, ℕ, min, unwrap_or}
use Rattle.std.specs.BTreeMap.{get}
use Rattle.std.specs.Ordering.{nat_cmp}
use Rattle.tb_board.specs.declared.board.Board.{Board}
use Rattle.tb_board.specs.Templates.{count}
use Rattle.tb_sweep.specs.declared.counts.Counts.{Counts}

abbrev pub number_at : Counts → ℕ → ℕ
number_at c id = unwrap_or (get nat_cmp c.numbers id) 0

-- the numbers are the board's counts, up to the place from which on no instance is due
abbrev pub AreCounts : Board → Counts → Type 0
AreCounts b c = (id : ℕ) → min 2932898 (number_at c id) ≡ min 2932898 (count b id)
