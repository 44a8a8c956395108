use Rattle.std.proofs.Common.{arith}
use Rattle.tb_board.proofs.Fresh.{taken_few}
use Rattle.tb_board.proofs.KnownNumbers.{next_is_free, next_small}
use Rattle.tb_board.proofs.numbers.next_number.Goals as goal

pub next_unmarked-requires : goal.next_unmarked-requires
next_unmarked-requires c =
    omega (arith, taken_few c.args.board.now c.args.next c.requires.knows.from c.requires.knows.before, c.requires.room, c.requires.knows.size)

pub returns-clause-free : goal.returns-clause-free
returns-clause-free c = next_is_free c.args.board.now _ _ _ c.requires.knows c.next_unmarked.ensures c.requires.room

pub returns-clause-from : goal.returns-clause-from
returns-clause-from c = omega (arith, c.requires.knows.from, c.next_unmarked.ensures.from)

pub returns-clause-small : goal.returns-clause-small
returns-clause-small c = next_small c.args.board.now _ _ _ c.requires.knows c.next_unmarked.ensures c.requires.room
