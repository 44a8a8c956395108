-- Imports that come again, and the walks for which one is refused.
use Rattle.std.specs.Prelude.{◌≡◌, ◌↔◌, ℕ, false, List, Ok, length}
use Rattle.tb_task.specs.declared.incoming.Incoming.{Incoming}
use Rattle.tb_board.specs.declared.board.Board.{Board}
use Rattle.tb_board.specs.Walks.{DependsOn}
use Rattle.tb_import.specs.declared.imported.ImportCounts.{ImportCounts}
use Rattle.tb_import.specs.Refusal.{is_cyclic, judged_import}

-- an accepted import that comes again finds all tasks known, and changes nothing
abbrev pub ImportAgainChangesNothing : Type 0
ImportAgainChangesNothing = (b : Board) (is : List Incoming) (c : Board) (told : ImportCounts)
    → judged_import b is ≡ Ok (c, told)
    → judged_import c is
    ≡ Ok (c, record { known = length is; new = 0; dropped = 0; orphans = 0; unlinked = 0 })

-- a board is cyclic but where no walk over its tasks leads from one back to it
abbrev pub AreClosedWalksFound : Type 0
AreClosedWalksFound = (b : Board) → (is_cyclic b ≡ false) ↔ ((x : ℕ) → DependsOn b x x → ⊥)
