use Rattle.std.proofs.Common.{◌≡◌, [], ◌∷◌, IfErr, IfSome, IsErrOf, Some, subst, sym}
use Rattle.tb_asking.specs.Asking.{asked_of}
use Rattle.tb_orders.specs.Items.{item_in}
use Rattle.tb_orders.specs.Orders.{AsksFor}
use Rattle.tb_orders.specs.Running.{IsRun}
use Rattle.tb_orders.proofs.Runs.{none_run, one_run}
use Rattle.tb_orders.proofs.running.import_part.Goals as goal
use Rattle.tb_program.specs.declared.fault.Fault.TheVariants.{BadBody, Store}

pub returns-in-Ok-clause-run : goal.returns-in-Ok-clause-run
returns-in-Ok-clause-run g c s held only =
    let did = c.import_text-end.ensures in
    let k = g.K.Keep in
    rw c.with_item.ensures.end
    (subst (λ m. IsRun (m ∷ []) c.args.run.now.at s c.import_text-end.result (k.is_honest c.import_text-end.new.desk) (k.holds c.import_text-end.new.desk)
    (k.after_stop c.import_text-end.new.desk) (g.W.Write.contents c.args.writer.now) (g.W.Write.contents c.import_text-end.new.writer)) c.in-Ok.ensures
    (one_run g.W.Write.contents c.import_text-end.result c.in-Ok.message c.args.run.now.at s (k.is_honest c.import_text-end.new.desk) k.holds k.after_stop
    c.args.desk.now c.import_text-end.new.desk c.args.writer.now c.import_text-end.new.writer
    (λ so. did.told so s held) (λ so. did.ending so s held) (λ so. did.front so s held) did.silent (did.stands s held only) did.unasked held only))

pub returns-in-Ok-clause-item : goal.returns-in-Ok-clause-item
returns-in-Ok-clause-item g c =
    subst (λ m. IfErr c.with_item.result (λ failed. IfSome failed.item (λ item. item_in c.args.number (asked_of m c.args.run.now.at) ≡ Some item)))
    c.in-Ok.ensures c.with_item.ensures.item

pub returns-in-Ok-clause-fault : goal.returns-in-Ok-clause-fault
returns-in-Ok-clause-fault g c = rw c.with_item.ensures.end c.import_text-end.ensures.fault

pub returns-in-Ok-clause-store : goal.returns-in-Ok-clause-store
returns-in-Ok-clause-store g c e = c.import_text-end.ensures.store (subst (λ r. IsErrOf r Store) c.with_item.ensures.end e)

pub returns-in-Err-clause-run : goal.returns-in-Err-clause-run
returns-in-Err-clause-run g c s held only = none_run _ _ s _ _ _ _ _ held only

pub returns-in-Ok-clause-bad : goal.returns-in-Ok-clause-bad
returns-in-Ok-clause-bad g c e call asks =
    c.import_text-end.ensures.unread (subst (λ r. IsErrOf r BadBody) c.with_item.ensures.end e) call
    (subst (λ m. AsksFor m c.args.run.now.at call) (sym c.in-Ok.ensures) asks)
