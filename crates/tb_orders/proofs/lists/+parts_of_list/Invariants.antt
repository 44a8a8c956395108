use Rattle.std.proofs.Common.{length}
use Rattle.tb_orders.proofs.lists.+parts_of_list.Given as goal

abbrev pub decreases-parts_of_list : goal.decreases-parts_of_list
decreases-parts_of_list l = length l.items.items
