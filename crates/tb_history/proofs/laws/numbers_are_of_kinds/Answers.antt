use Rattle.tb_history.proofs.KindNumbers.{numbers_of_kinds}
use Rattle.tb_history.proofs.laws.numbers_are_of_kinds.Goals as goal

pub returns : goal.returns
returns c = numbers_of_kinds
