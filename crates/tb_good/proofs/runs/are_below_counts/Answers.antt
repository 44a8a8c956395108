use Rattle.tb_good.proofs.Counting.{all_below_tell}
use Rattle.tb_good.proofs.runs.are_below_counts.Goals as goal

pub returns : goal.returns
returns c = all_below_tell c.args.places.now c.in_ok-counts.counts c.are_below.result c.in_ok-counts.ensures c.are_below.ensures
