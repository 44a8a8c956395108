-- Tasks that a board has already.
use Rattle.std.specs.Prelude.{◌≡◌, true, List}
use Rattle.std.specs.List.{AllByRecursion}
use Rattle.tb_task.specs.declared.incoming.Incoming.{Incoming}
use Rattle.tb_board.specs.declared.board.Board.{Board}
use Rattle.tb_board.specs.Board.{is_on}

-- each task of the list is on the board
abbrev pub AreKnown : Board → List Incoming → Type 0
AreKnown b is = AllByRecursion (λ (i : Incoming). is_on b i.task.id ≡ true) is
