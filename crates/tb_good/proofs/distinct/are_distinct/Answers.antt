use Rattle.std.proofs.Common.{length, refl}
use Rattle.tb_good.proofs.Repeats.{size_tells}
use Rattle.tb_good.proofs.distinct.are_distinct.Goals as goal

pub returns : goal.returns
returns g c = size_tells g.met.K.Ord.total c.args.keys.now c.in_ok-set.set c.len.result (length c.args.keys.now) c.in_ok-set.ensures c.len.ensures.len refl
