use Rattle.std.proofs.Common.{◌≡◌, IfErr, IfSome, IsErrOf, Some, subst}
use Rattle.std.proofs.lemmas.Result.{IfErr-weaker}
use Rattle.tb_asking.specs.Asking.{asked_of}
use Rattle.tb_orders.specs.Items.{item_in}
use Rattle.tb_orders.proofs.Doing.{done_by, none_done, unread_acts_not}
use Rattle.tb_orders.proofs.Inputs.{made_by, never_unread, of_import}
use Rattle.tb_orders.proofs.Items.{bad_in}
use Rattle.tb_orders.proofs.Unasked.{unasked_bad}
use Rattle.tb_orders.proofs.input.import_input.Goals as goal
use Rattle.tb_program.specs.declared.fault.Fault.TheVariants.{BadBody, Memory, ReadFailed, Store}

pub returns-in-Ok-clause-made : goal.returns-in-Ok-clause-made
returns-in-Ok-clause-made g c s held =
    let read = c.in-Ok.ensures.read in
    let did = c.import_text-end.ensures in
    rw c.with_item.ensures.end
    (made_by _ c.import_text-end.result c.args.order.now read.0 _ _ _ s _ _ _ _ read.3 read.2 read.1
    (λ honest. did.told honest s held) (did.left s held) (λ honest. did.ending honest s held) (λ none. (did.unasked none).0))

pub returns-in-Ok-clause-memory : goal.returns-in-Ok-clause-memory
returns-in-Ok-clause-memory g c s held e = c.import_text-end.ensures.memory s held (subst (λ r. IsErrOf r Memory) c.with_item.ensures.end e)

pub returns-in-Ok-clause-does : goal.returns-in-Ok-clause-does
returns-in-Ok-clause-does g c s held only =
    let read = c.in-Ok.ensures.read in
    let did = c.import_text-end.ensures in
    rw c.with_item.ensures.end
    (done_by g.W.Write.contents _ c.import_text-end.result c.args.order.now read.0 c.in-Ok.arrived.message c.in-Ok.arrived.at _ s
    (g.K.Keep.is_honest c.import_text-end.new.desk) g.K.Keep.holds g.K.Keep.after_stop c.args.desk.now c.import_text-end.new.desk
    c.args.writer.now c.import_text-end.new.writer read.3 read.2 read.1 (λ so. did.told so s held) (λ so. did.front so s held) did.silent (did.stands s held only) did.unasked held only)

pub returns-in-Ok-clause-silent : goal.returns-in-Ok-clause-silent
returns-in-Ok-clause-silent g c = rw c.with_item.ensures.end c.import_text-end.ensures.silent

pub returns-in-Ok-clause-item : goal.returns-in-Ok-clause-item
returns-in-Ok-clause-item g c =
    let read = c.in-Ok.ensures.read in
    bad_in c.args.order.now _ read.0 c.in-Ok.arrived.at c.with_item.result read.1
    (subst (λ m. IfErr c.with_item.result (λ failed. IfSome failed.item (λ told. item_in 1 (asked_of m c.in-Ok.arrived.at) ≡ Some told))) read.2 c.with_item.ensures.item)

pub returns-in-Ok-clause-fault : goal.returns-in-Ok-clause-fault
returns-in-Ok-clause-fault g c = rw c.with_item.ensures.end (IfErr-weaker c.import_text-end.result _ _ of_import c.import_text-end.ensures.fault)

pub returns-in-Ok-clause-store : goal.returns-in-Ok-clause-store
returns-in-Ok-clause-store g c e = c.import_text-end.ensures.store (subst (λ r. IsErrOf r Store) c.with_item.ensures.end e)

pub returns-in-Err-clause-does : goal.returns-in-Err-clause-does
returns-in-Err-clause-does g c s held only =
    let acts_not = unread_acts_not c.in-Err.fault c.in-Err.ensures.fault in
    none_done _ c.args.order.now _ s c.in-Err.fault _ _ _ (g.W.Write.contents c.args.writer.now) acts_not.0 acts_not.1 held only

pub returns-in-Ok-clause-bad : goal.returns-in-Ok-clause-bad
returns-in-Ok-clause-bad g c e =
    let read = c.in-Ok.ensures.read in
    unasked_bad c.args.order.now _ read.0 c.in-Ok.arrived.message c.in-Ok.arrived.at read.1 read.2
    (c.import_text-end.ensures.unread (subst (λ r. IsErrOf r BadBody) c.with_item.ensures.end e))

pub returns-in-Ok-clause-spent : goal.returns-in-Ok-clause-spent
returns-in-Ok-clause-spent g c e =
    absurd (never_unread c.import_text-end.result c.import_text-end.ensures.fault (subst (λ r. IsErrOf r ReadFailed) c.with_item.ensures.end e))
