-- What an import keeps.
use Rattle.std.specs.Prelude.{List, IfOk}
use Rattle.tb_task.specs.declared.incoming.Incoming.{Incoming}
use Rattle.tb_board.specs.declared.board.Board.{Board}
use Rattle.tb_board.specs.Good.{IsGood}
use Rattle.tb_import.specs.Refusal.{judged_import}

-- an import that is accepted leaves a good board good
abbrev pub ImportKeepsGood : Type 0
ImportKeepsGood = (b : Board) (is : List Incoming) → IsGood b
    → IfOk (judged_import b is) (λ after. IsGood after.0)
