use Rattle.tb_board.proofs.FirstWaits.{noted}
use Rattle.tb_board.proofs.first_wait.FirstWait.with.Goals as goal

pub returns : goal.returns
returns c = λ m. noted m c.args.self.until c.earlier.result c.wait_of-wait.result c.args.task.now c.earlier.ensures c.wait_of-wait.ensures
