use Rattle.tb_history.proofs.Numbering.{numbers_follow}
use Rattle.tb_history.proofs.laws.numbers_follow.Goals as goal

pub returns : goal.returns
returns c = numbers_follow
