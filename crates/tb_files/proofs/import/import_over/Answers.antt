use Rattle.std.proofs.Common.{Err, Ok, ap, refl}
use Rattle.std.proofs.lemmas.Result.{IfErr-weaker, IfOk-weaker}
use Rattle.tb_files.proofs.Begun.{imported_as}
use Rattle.tb_files.proofs.Quiet.{unwritten}
use Rattle.tb_orders.specs.declared.order_fault.OrderFault.{OrderFault}
use Rattle.tb_files.proofs.import.import_over.Goals as goal

pub returns-in-Ok-clause-imported : goal.returns-in-Ok-clause-imported
returns-in-Ok-clause-imported g c =
    IfOk-weaker c.close_after.result _ _ (λ told closed. imported_as _ _ _ _ _ _ told c.in-Ok.ending _ closed.0 (record {
      new = c.import_input.new.desk;
      files = closed.1.0;
      saved = closed.1.1;
      made = c.in-Ok.ensures.made;
    })) c.close_after.ensures.saved

pub returns-in-Ok-clause-failed : goal.returns-in-Ok-clause-failed
returns-in-Ok-clause-failed g c =
    IfErr-weaker c.close_after.result _ _ (λ failed is. record {
      new = c.import_input.new.desk;
      end = Ok c.in-Ok.ending;
      ends = ap (λ (x : OrderFault). x.fault) is.0;
      unsaved = is.1;
      does = c.in-Ok.ensures.does;
    }) c.close_after.ensures.fault

pub returns-in-Err-clause-failed : goal.returns-in-Err-clause-failed
returns-in-Err-clause-failed g c = record {
  new = c.import_input.new.desk;
  end = Err c.in-Err.failed.fault;
  ends = refl;
  unsaved = tt;
  does = c.in-Err.ensures.does;
}

pub returns-in-Err-clause-silent : goal.returns-in-Err-clause-silent
returns-in-Err-clause-silent g c = λ quiet. c.in-Err.ensures.silent (unwritten c.in-Err.failed.fault quiet)
