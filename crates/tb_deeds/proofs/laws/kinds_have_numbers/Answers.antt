use Rattle.tb_deeds.proofs.Numbers.{kind_found}
use Rattle.tb_deeds.proofs.laws.kinds_have_numbers.Goals as goal

pub returns : goal.returns
returns c = kind_found
