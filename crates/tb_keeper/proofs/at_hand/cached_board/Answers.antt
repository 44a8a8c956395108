use Rattle.std.proofs.Common.{◌∙◌}
use Rattle.tb_keeper.proofs.Using.{first_again}
use Rattle.tb_keeper.proofs.at_hand.cached_board.Goals as goal

pub returns-in-Ok-clause-used : goal.returns-in-Ok-clause-used
returns-in-Ok-clause-used c = c.in-Ok.ensures.used ∙ first_again c.args.cache.now c.args.number c.in-Ok.board c.in-Ok.ensures.found
