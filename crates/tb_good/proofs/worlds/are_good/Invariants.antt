use Rattle.std.proofs.Common.{take}
use Rattle.std.specs.List.{All}
use Rattle.tb_board.specs.Good.{IsGood}
use Rattle.tb_good.proofs.worlds.are_good.Given as goal

abbrev pub invariant-loop-board : goal.invariant-loop-board
invariant-loop-board l = All IsGood (take l.board-index l.boards)
