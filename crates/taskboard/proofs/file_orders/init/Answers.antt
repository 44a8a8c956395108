use Rattle.std.proofs.Common.{inl, inr, refl}
use Rattle.taskboard.proofs.Handed.{left_by}
use Rattle.tb_files.specs.NotDone.{failure_of}
use Rattle.tb_orders.specs.Items.{fault_alone}
use Rattle.taskboard.proofs.file_orders.init.Goals as goal

pub returns-clause-made : goal.returns-clause-made
returns-clause-made g c = (c.in_ok-conn.conn, c.in_ok-conn.ensures.found, c.in_ok-make_file.ensures.made)

pub returns-in_err-conn-clause-unmade : goal.returns-in_err-conn-clause-unmade
returns-in_err-conn-clause-unmade g c =
    left_by c.from_residual.result (fault_alone c.in_err-conn.field-0.0) _ c.from_residual.ensures.1 (inl (refl, c.in_err-conn.ensures.fault))

pub returns-in_err-make_file-clause-unmade : goal.returns-in_err-make_file-clause-unmade
returns-in_err-make_file-clause-unmade g c =
    left_by c.from_residual-in_err-make_file.result (failure_of c.in_err-make_file.field-0.0) _ c.from_residual-in_err-make_file.ensures.1
    (inr (record { found = c.in_ok-conn.conn; is_found = c.in_ok-conn.ensures.found; undone = c.in_err-make_file.field-0.0; done = c.in_err-make_file.ensures.unmade; told = refl }))
