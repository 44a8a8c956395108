use Rattle.tb_rooms.proofs.Bounding.{bounded}
use Rattle.tb_rooms.proofs.laws.growth_is_bounded.Goals as goal

pub returns : goal.returns
returns c = bounded c.args.rate.now
