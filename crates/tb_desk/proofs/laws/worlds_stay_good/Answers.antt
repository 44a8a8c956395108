use Rattle.tb_desk.proofs.Repeats.{good_all}
use Rattle.tb_desk.proofs.laws.worlds_stay_good.Goals as goal

pub returns : goal.returns
returns c = good_all
