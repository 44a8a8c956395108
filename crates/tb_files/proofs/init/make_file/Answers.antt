use Rattle.std.proofs.Common.{ap, refl}
use Rattle.tb_calls.specs.Call.{opening}
use Rattle.tb_files.proofs.Made.{made_holds}
use Rattle.tb_files.proofs.Unmade.{by_making}
use Rattle.tb_files.proofs.init.make_file.Goals as goal
use Rattle.tb_orders.specs.Items.{fault_alone}

pub returns-in-Ok-close_desk-clause-made : goal.returns-in-Ok-close_desk-clause-made
returns-in-Ok-close_desk-clause-made g c = (
  refl,
  record {
    keep = c.in-Ok.desk;
    at = λ clean. c.in-Ok.ensures.begun (c.requires.opens clean);
    files = c.in-Ok-close_desk.ensures.saved.0;
    saved = c.in-Ok-close_desk.ensures.saved.1;
    holds = λ clean honest. made_holds c.in-Ok.desk c.in-Ok-close_desk.ensures.saved.0 (opening c.args.order.now.name c.args.order.now.key)
        c.in-Ok.ensures.fresh (c.in-Ok.ensures.begun (c.requires.opens clean)).held (c.in-Ok-close_desk.ensures.saved.1 honest);
  },
)

pub returns-in-Err-close_desk-clause-unmade : goal.returns-in-Err-close_desk-clause-unmade
returns-in-Err-close_desk-clause-unmade g c = (
  ap fault_alone c.in-Err-close_desk.ensures.fault,
  record {
    keep = c.in-Ok.desk;
    at = λ clean. c.in-Ok.ensures.begun (c.requires.opens clean);
    unsaved = c.in-Err-close_desk.ensures.unsaved;
  },
)

pub returns-in-Err-clause-unmade : goal.returns-in-Err-clause-unmade
returns-in-Err-clause-unmade g c = rw c.fault_of_making.ensures.value
    (by_making (opening c.args.order.now.name c.args.order.now.key) c.args.conn c.in-Err.left c.in-Err.fault
    (rw c.in-Err.is at c.make.ensures.filled) c.in-Err.ensures.unmade)
