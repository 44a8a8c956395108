use Rattle.std.proofs.Common.{inl, inr, refl}
use Rattle.taskboard.proofs.Handed.{left_by}
use Rattle.tb_files.specs.NotDone.{failure_of}
use Rattle.tb_orders.specs.Items.{fault_alone}
use Rattle.taskboard.proofs.file_orders.view.Goals as goal

pub returns-in_err-conn-clause-unshown : goal.returns-in_err-conn-clause-unshown
returns-in_err-conn-clause-unshown g c =
    left_by c.from_residual.result (fault_alone c.in_err-conn.field-0.0) _ c.from_residual.ensures.1 (inl (refl, (refl, c.in_err-conn.ensures.fault)))

pub returns-in_err-print_board-clause-unshown : goal.returns-in_err-print_board-clause-unshown
returns-in_err-print_board-clause-unshown g c =
    left_by c.from_residual-in_err-print_board.result (failure_of c.in_err-print_board.field-0.0) _ c.from_residual-in_err-print_board.ensures.1
    (inr (record { found = c.in_ok-conn.conn; is_found = c.in_ok-conn.ensures.found; undone = c.in_err-print_board.field-0.0; done = (c.in_err-print_board.ensures.undone, c.in_err-print_board.ensures.unwritten, c.in_err-print_board.ensures.cut); told = refl }))
