use Rattle.tb_http.specs.Route.{alone_rows}
use Rattle.tb_http.proofs.RouteTable.{alone_fit}
use Rattle.tb_http.proofs.route.add_alone.Goals as goal

pub add-requires : goal.add-requires
add-requires c = rw c.requires alone_fit.0

pub add-requires-2 : goal.add-requires-2
add-requires-2 c = rw (c.in_ok-add.ensures.row, c.requires) alone_fit.1.0

pub add-requires-3 : goal.add-requires-3
add-requires-3 c = rw (c.in_ok-add-2.ensures.row, c.in_ok-add.ensures.row, c.requires) alone_fit.1.1.0

pub add-requires-4 : goal.add-requires-4
add-requires-4 c = rw (c.in_ok-add-3.ensures.row, c.in_ok-add-2.ensures.row, c.in_ok-add.ensures.row, c.requires) alone_fit.1.1.1.0

pub add-requires-5 : goal.add-requires-5
add-requires-5 c = rw (c.in_ok-add-4.ensures.row, c.in_ok-add-3.ensures.row, c.in_ok-add-2.ensures.row, c.in_ok-add.ensures.row, c.requires) alone_fit.1.1.1.1.0

pub returns-clause-rows : goal.returns-clause-rows
unfolding alone_rows
returns-clause-rows c = rw (c.in_ok-add-4.ensures.row, c.in_ok-add-3.ensures.row, c.in_ok-add-2.ensures.row, c.in_ok-add.ensures.row, c.requires) at c.add-5.ensures.row
