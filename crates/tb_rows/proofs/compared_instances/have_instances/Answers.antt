use Rattle.std.proofs.lemmas.Slice.Eq.{slice_eq-Decides}
use Rattle.tb_rows.specs.Rows.{board_instances}
use Rattle.tb_rows.specs.RowOrders.{instance_order}
use Rattle.tb_rows.proofs.Comparing.{order_tells}
use Rattle.tb_rows.proofs.RowOrders.{instance_tells, instances_exact}
use Rattle.tb_rows.proofs.compared_instances.have_instances.Goals as goal

pub returns : goal.returns
returns c =
    order_tells instance_order instances_exact c.args.rows.now (board_instances c.args.board.now) c.in_order-found.result.items c.in_order-wanted.result.items c.eq.result
    (rw c.in_ok-from_slice.ensures.items at c.in_order-found.ensures.same) (rw (c.into_vec.ensures, c.in_ok-board_instances.ensures) at c.in_order-wanted.ensures.same)
    c.in_order-found.ensures.sorted c.in_order-wanted.ensures.sorted
    (slice_eq-Decides instance_tells _ _ _ c.eq.ensures)
