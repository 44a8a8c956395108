use Rattle.tb_http.specs.Route.{board_rows}
use Rattle.tb_http.proofs.RouteTable.{boards_fit}
use Rattle.tb_http.proofs.route.add_boards.Goals as goal

pub add-requires : goal.add-requires
add-requires c = rw c.requires boards_fit.0

pub add-requires-2 : goal.add-requires-2
add-requires-2 c = rw (c.in_ok-add.ensures.row, c.requires) boards_fit.1.0

pub add-requires-3 : goal.add-requires-3
add-requires-3 c = rw (c.in_ok-add-2.ensures.row, c.in_ok-add.ensures.row, c.requires) boards_fit.1.1.0

pub add-requires-4 : goal.add-requires-4
add-requires-4 c = rw (c.in_ok-add-3.ensures.row, c.in_ok-add-2.ensures.row, c.in_ok-add.ensures.row, c.requires) boards_fit.1.1.1.0

pub add-requires-5 : goal.add-requires-5
add-requires-5 c = rw (c.in_ok-add-4.ensures.row, c.in_ok-add-3.ensures.row, c.in_ok-add-2.ensures.row, c.in_ok-add.ensures.row, c.requires) boards_fit.1.1.1.1.0

pub add-requires-6 : goal.add-requires-6
add-requires-6 c = rw (c.in_ok-add-5.ensures.row, c.in_ok-add-4.ensures.row, c.in_ok-add-3.ensures.row, c.in_ok-add-2.ensures.row, c.in_ok-add.ensures.row, c.requires) boards_fit.1.1.1.1.1.0

pub add-requires-7 : goal.add-requires-7
add-requires-7 c = rw (c.in_ok-add-6.ensures.row, c.in_ok-add-5.ensures.row, c.in_ok-add-4.ensures.row, c.in_ok-add-3.ensures.row, c.in_ok-add-2.ensures.row, c.in_ok-add.ensures.row, c.requires) boards_fit.1.1.1.1.1.1.0

pub add-requires-8 : goal.add-requires-8
add-requires-8 c = rw (c.in_ok-add-7.ensures.row, c.in_ok-add-6.ensures.row, c.in_ok-add-5.ensures.row, c.in_ok-add-4.ensures.row, c.in_ok-add-3.ensures.row, c.in_ok-add-2.ensures.row, c.in_ok-add.ensures.row, c.requires) boards_fit.1.1.1.1.1.1.1.0

pub add-requires-9 : goal.add-requires-9
add-requires-9 c = rw (c.in_ok-add-8.ensures.row, c.in_ok-add-7.ensures.row, c.in_ok-add-6.ensures.row, c.in_ok-add-5.ensures.row, c.in_ok-add-4.ensures.row, c.in_ok-add-3.ensures.row, c.in_ok-add-2.ensures.row, c.in_ok-add.ensures.row, c.requires) boards_fit.1.1.1.1.1.1.1.1.0

pub add-requires-10 : goal.add-requires-10
add-requires-10 c = rw (c.in_ok-add-9.ensures.row, c.in_ok-add-8.ensures.row, c.in_ok-add-7.ensures.row, c.in_ok-add-6.ensures.row, c.in_ok-add-5.ensures.row, c.in_ok-add-4.ensures.row, c.in_ok-add-3.ensures.row, c.in_ok-add-2.ensures.row, c.in_ok-add.ensures.row, c.requires) boards_fit.1.1.1.1.1.1.1.1.1.0

pub add-requires-11 : goal.add-requires-11
add-requires-11 c = rw (c.in_ok-add-10.ensures.row, c.in_ok-add-9.ensures.row, c.in_ok-add-8.ensures.row, c.in_ok-add-7.ensures.row, c.in_ok-add-6.ensures.row, c.in_ok-add-5.ensures.row, c.in_ok-add-4.ensures.row, c.in_ok-add-3.ensures.row, c.in_ok-add-2.ensures.row, c.in_ok-add.ensures.row, c.requires) boards_fit.1.1.1.1.1.1.1.1.1.1.0

pub add-requires-12 : goal.add-requires-12
add-requires-12 c = rw (c.in_ok-add-11.ensures.row, c.in_ok-add-10.ensures.row, c.in_ok-add-9.ensures.row, c.in_ok-add-8.ensures.row, c.in_ok-add-7.ensures.row, c.in_ok-add-6.ensures.row, c.in_ok-add-5.ensures.row, c.in_ok-add-4.ensures.row, c.in_ok-add-3.ensures.row, c.in_ok-add-2.ensures.row, c.in_ok-add.ensures.row, c.requires) boards_fit.1.1.1.1.1.1.1.1.1.1.1.0

pub add-requires-13 : goal.add-requires-13
add-requires-13 c = rw (c.in_ok-add-12.ensures.row, c.in_ok-add-11.ensures.row, c.in_ok-add-10.ensures.row, c.in_ok-add-9.ensures.row, c.in_ok-add-8.ensures.row, c.in_ok-add-7.ensures.row, c.in_ok-add-6.ensures.row, c.in_ok-add-5.ensures.row, c.in_ok-add-4.ensures.row, c.in_ok-add-3.ensures.row, c.in_ok-add-2.ensures.row, c.in_ok-add.ensures.row, c.requires) boards_fit.1.1.1.1.1.1.1.1.1.1.1.1.0

pub add-requires-14 : goal.add-requires-14
add-requires-14 c = rw (c.in_ok-add-13.ensures.row, c.in_ok-add-12.ensures.row, c.in_ok-add-11.ensures.row, c.in_ok-add-10.ensures.row, c.in_ok-add-9.ensures.row, c.in_ok-add-8.ensures.row, c.in_ok-add-7.ensures.row, c.in_ok-add-6.ensures.row, c.in_ok-add-5.ensures.row, c.in_ok-add-4.ensures.row, c.in_ok-add-3.ensures.row, c.in_ok-add-2.ensures.row, c.in_ok-add.ensures.row, c.requires) boards_fit.1.1.1.1.1.1.1.1.1.1.1.1.1.0

pub returns-clause-rows : goal.returns-clause-rows
unfolding board_rows
returns-clause-rows c = rw (c.in_ok-add-13.ensures.row, c.in_ok-add-12.ensures.row, c.in_ok-add-11.ensures.row, c.in_ok-add-10.ensures.row, c.in_ok-add-9.ensures.row, c.in_ok-add-8.ensures.row, c.in_ok-add-7.ensures.row, c.in_ok-add-6.ensures.row, c.in_ok-add-5.ensures.row, c.in_ok-add-4.ensures.row, c.in_ok-add-3.ensures.row, c.in_ok-add-2.ensures.row, c.in_ok-add.ensures.row, c.requires) at c.add-14.ensures.row
