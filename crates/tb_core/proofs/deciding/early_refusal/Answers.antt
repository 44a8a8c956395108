use Rattle.tb_core.proofs.Early.{refuses}
use Rattle.tb_core.proofs.deciding.early_refusal.Goals as goal

pub returns-in-Add : goal.returns-in-Add
returns-in-Add c = refuses c.args.board.now c.args.command.now c.in-Add.incoming c.add_refusal.result c.in-Add.is c.add_refusal.ensures
