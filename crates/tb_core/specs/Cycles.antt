-- When a link is refused as a cycle.
use Rattle.std.specs.Prelude.{◌≡◌, ◌↔◌, ◌⊎◌, ℕ, None, Err}
use Rattle.tb_board.specs.declared.board.Board.{Board}
use Rattle.tb_board.specs.Walks.{DependsOn}
use Rattle.tb_core.specs.declared.refusal.Refusal.TheVariants.{Cycle}
use Rattle.tb_core.specs.Linking.{judged_depend, link_refusals}
use Rattle.tb_core.specs.Refusals.{least}

-- exactly where no smaller refusal holds, and the two tasks are one or the second depends on the first by a walk
abbrev pub AreCyclesRefused : Type 0
AreCyclesRefused = (b : Board) (id on m : ℕ)
    → (judged_depend b id on m ≡ Err Cycle)
    ↔ ((least (link_refusals b id on None) ≡ None) × ((id ≡ on) ⊎ DependsOn b on id))
