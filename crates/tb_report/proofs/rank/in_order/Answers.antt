use Rattle.tb_report.specs.Rank.{rank_order}
use Rattle.tb_report.proofs.Sorting.{sorted_is}
use Rattle.tb_report.proofs.RankOrder.{rank_exact}
use Rattle.tb_report.proofs.rank.in_order.Goals as goal

pub returns : goal.returns
returns c = sorted_is rank_order rank_exact c.args.ranks.items c.sort.new.self.items c.in_ok-sort.ensures.permutation c.in_ok-sort.ensures.sorted
