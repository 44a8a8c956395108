use Rattle.std.proofs.Common.{◌∙◌, Some, inl, subst, sym, true≢false}
use Rattle.std.proofs.lemmas.Result.{IfErr-weaker}
use Rattle.tb_orders.specs.Items.{end_of}
use Rattle.tb_orders.specs.Lists.{IsCut}
use Rattle.tb_orders.proofs.Doing.{read_by_then}
use Rattle.tb_orders.proofs.Inputs.{never_unread, of_import}
use Rattle.tb_orders.proofs.Items.{bad_among}
use Rattle.tb_orders.proofs.Runs.{unread_run}
use Rattle.tb_orders.proofs.Unasked.{part_bad, uncut_bad}
use Rattle.tb_orders.proofs.whole.import_all.Goals as goal

pub returns-in-Ok-clause-run : goal.returns-in-Ok-clause-run
returns-in-Ok-clause-run g c s held only =
    let read = c.in-Ok.ensures.read in
    record {
      text = read.0;
      parts = c.as_slice-parts.result.now;
      at = _;
      whole = read.1;
      cut = inl (subst (λ ps. IsCut c.args.order.now.kind read.0 (Some ps)) (sym c.as_slice-parts.ensures.value) read.2, read.3);
      run = c.import_parts.ensures.run s held only;
    }

pub returns-in-Ok-clause-item : goal.returns-in-Ok-clause-item
returns-in-Ok-clause-item g c =
    let read = c.in-Ok.ensures.read in
    bad_among c.args.order.now _ read.0 c.as_slice-parts.result.now c.in-Ok.arrived.at c.import_parts.result read.1
    (subst (λ ps. IsCut c.args.order.now.kind read.0 (Some ps)) (sym c.as_slice-parts.ensures.value) read.2) c.import_parts.ensures.item

pub returns-in-Ok-clause-fault : goal.returns-in-Ok-clause-fault
returns-in-Ok-clause-fault g c = IfErr-weaker (end_of c.import_parts.result) _ _ of_import c.import_parts.ensures.fault

pub returns-in-Ok-clause-unread : goal.returns-in-Ok-clause-unread
returns-in-Ok-clause-unread g c =
    IfErr-weaker (end_of c.import_parts.result) _ _ (λ fault of is. absurd (true≢false (sym is ∙ read_by_then fault of))) c.import_parts.ensures.fault

pub returns-in-Err-clause-run : goal.returns-in-Err-clause-run
returns-in-Err-clause-run g c s held only = unread_run _ _ _ s _ _ _ _ _ held only

pub returns-in-Ok-clause-bad : goal.returns-in-Ok-clause-bad
returns-in-Ok-clause-bad g c is =
    let read = c.in-Ok.ensures.read in
    part_bad c.args.order.now _ read.0 c.as_slice-parts.result.now c.in-Ok.arrived.at read.1
    (subst (λ ps. IsCut c.args.order.now.kind read.0 (Some ps)) (sym c.as_slice-parts.ensures.value) read.2) (c.import_parts.ensures.bad is)

pub returns-in-Err-clause-bad : goal.returns-in-Err-clause-bad
returns-in-Err-clause-bad g c is = uncut_bad c.args.order.now _ (c.in-Err.ensures.bad (cc))

pub returns-in-Ok-clause-spent : goal.returns-in-Ok-clause-spent
returns-in-Ok-clause-spent g c e = absurd (never_unread (end_of c.import_parts.result) c.import_parts.ensures.fault e)
