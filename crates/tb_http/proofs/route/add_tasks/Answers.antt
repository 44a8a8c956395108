use Rattle.tb_http.specs.Route.{route_rows}
use Rattle.tb_http.proofs.RouteTable.{tasks_fit}
use Rattle.tb_http.proofs.route.add_tasks.Goals as goal

pub add-requires : goal.add-requires
add-requires c = rw c.requires tasks_fit.0

pub add_call-requires : goal.add_call-requires
add_call-requires c = rw (c.in_ok-add.ensures.row, c.requires) tasks_fit.1.0

pub add_call-requires-2 : goal.add_call-requires-2
add_call-requires-2 c = rw (c.in_ok-add_call.ensures.row, c.in_ok-add.ensures.row, c.requires) tasks_fit.1.1.0

pub add_call-requires-3 : goal.add_call-requires-3
add_call-requires-3 c = rw (c.in_ok-add_call-2.ensures.row, c.in_ok-add_call.ensures.row, c.in_ok-add.ensures.row, c.requires) tasks_fit.1.1.1.0

pub add_call-requires-4 : goal.add_call-requires-4
add_call-requires-4 c = rw (c.in_ok-add_call-3.ensures.row, c.in_ok-add_call-2.ensures.row, c.in_ok-add_call.ensures.row, c.in_ok-add.ensures.row, c.requires) tasks_fit.1.1.1.1.0

pub add_call-requires-5 : goal.add_call-requires-5
add_call-requires-5 c = rw (c.in_ok-add_call-4.ensures.row, c.in_ok-add_call-3.ensures.row, c.in_ok-add_call-2.ensures.row, c.in_ok-add_call.ensures.row, c.in_ok-add.ensures.row, c.requires) tasks_fit.1.1.1.1.1.0

pub add_call-requires-6 : goal.add_call-requires-6
add_call-requires-6 c = rw (c.in_ok-add_call-5.ensures.row, c.in_ok-add_call-4.ensures.row, c.in_ok-add_call-3.ensures.row, c.in_ok-add_call-2.ensures.row, c.in_ok-add_call.ensures.row, c.in_ok-add.ensures.row, c.requires) tasks_fit.1.1.1.1.1.1.0

pub add_call-requires-7 : goal.add_call-requires-7
add_call-requires-7 c = rw (c.in_ok-add_call-6.ensures.row, c.in_ok-add_call-5.ensures.row, c.in_ok-add_call-4.ensures.row, c.in_ok-add_call-3.ensures.row, c.in_ok-add_call-2.ensures.row, c.in_ok-add_call.ensures.row, c.in_ok-add.ensures.row, c.requires) tasks_fit.1.1.1.1.1.1.1.0

pub add_call-requires-8 : goal.add_call-requires-8
add_call-requires-8 c = rw (c.in_ok-add_call-7.ensures.row, c.in_ok-add_call-6.ensures.row, c.in_ok-add_call-5.ensures.row, c.in_ok-add_call-4.ensures.row, c.in_ok-add_call-3.ensures.row, c.in_ok-add_call-2.ensures.row, c.in_ok-add_call.ensures.row, c.in_ok-add.ensures.row, c.requires) tasks_fit.1.1.1.1.1.1.1.1.0

pub add_call-requires-9 : goal.add_call-requires-9
add_call-requires-9 c = rw (c.in_ok-add_call-8.ensures.row, c.in_ok-add_call-7.ensures.row, c.in_ok-add_call-6.ensures.row, c.in_ok-add_call-5.ensures.row, c.in_ok-add_call-4.ensures.row, c.in_ok-add_call-3.ensures.row, c.in_ok-add_call-2.ensures.row, c.in_ok-add_call.ensures.row, c.in_ok-add.ensures.row, c.requires) tasks_fit.1.1.1.1.1.1.1.1.1.0

pub add_call-requires-10 : goal.add_call-requires-10
add_call-requires-10 c = rw (c.in_ok-add_call-9.ensures.row, c.in_ok-add_call-8.ensures.row, c.in_ok-add_call-7.ensures.row, c.in_ok-add_call-6.ensures.row, c.in_ok-add_call-5.ensures.row, c.in_ok-add_call-4.ensures.row, c.in_ok-add_call-3.ensures.row, c.in_ok-add_call-2.ensures.row, c.in_ok-add_call.ensures.row, c.in_ok-add.ensures.row, c.requires) tasks_fit.1.1.1.1.1.1.1.1.1.1.0

pub add-requires-2 : goal.add-requires-2
add-requires-2 c = rw (c.in_ok-add_call-10.ensures.row, c.in_ok-add_call-9.ensures.row, c.in_ok-add_call-8.ensures.row, c.in_ok-add_call-7.ensures.row, c.in_ok-add_call-6.ensures.row, c.in_ok-add_call-5.ensures.row, c.in_ok-add_call-4.ensures.row, c.in_ok-add_call-3.ensures.row, c.in_ok-add_call-2.ensures.row, c.in_ok-add_call.ensures.row, c.in_ok-add.ensures.row, c.requires) tasks_fit.1.1.1.1.1.1.1.1.1.1.1.0

pub returns-clause-rows : goal.returns-clause-rows
unfolding route_rows
returns-clause-rows c = rw (c.in_ok-add_call-10.ensures.row, c.in_ok-add_call-9.ensures.row, c.in_ok-add_call-8.ensures.row, c.in_ok-add_call-7.ensures.row, c.in_ok-add_call-6.ensures.row, c.in_ok-add_call-5.ensures.row, c.in_ok-add_call-4.ensures.row, c.in_ok-add_call-3.ensures.row, c.in_ok-add_call-2.ensures.row, c.in_ok-add_call.ensures.row, c.in_ok-add.ensures.row, c.requires) at c.add-2.ensures.row
