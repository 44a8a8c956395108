use Rattle.tb_finding.specs.Order.{key_order}
use Rattle.tb_finding.proofs.KeyOrder.{key_exact}
use Rattle.tb_finding.proofs.finding.in_order.Goals as goal
use Rattle.tb_report.proofs.Sorting.{sorted_is}

pub returns : goal.returns
returns c = sorted_is key_order key_exact c.args.keys.items c.sort.new.self.items c.in_ok-sort.ensures.permutation c.in_ok-sort.ensures.sorted
