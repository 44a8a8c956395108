use Rattle.std.proofs.Common.{◌≡◌, ◌+◌, [], ◌∷◌, Ok, rules, subst}
use Rattle.tb_orders.specs.Running.{IsRun, part_message}
use Rattle.tb_orders.specs.declared.ending.Ending.TheVariants.{Accepted, Refused}
use Rattle.tb_orders.proofs.Items.{bad_behind, bad_first}
use Rattle.tb_orders.proofs.Runs.{cut_parts, then_parts}
use Rattle.tb_orders.proofs.Unasked.{unasked_behind, unasked_first}
use Rattle.tb_orders.proofs.running.+import_parts.Goals as goal

pub returns-in-Ok-Accepted-clause-run : goal.returns-in-Ok-Accepted-clause-run
returns-in-Ok-Accepted-clause-run g t c s held only =
    let k = g.K.Keep in
    let run = c.args.run.now in
    let accepted : c.in-Ok-Accepted.field-0 ≡ Accepted = search rules in
    let first = subst (λ e. IsRun (part_message run.order.now (c.args.before + 1) c.in-Some.part.now ∷ []) run.at s (Ok e) (k.is_honest c.import_part.new.desk)
    (k.holds c.import_part.new.desk) (k.after_stop c.import_part.new.desk) (g.W.Write.contents c.args.writer.now) (g.W.Write.contents c.import_part.new.writer))
    accepted (c.in-Ok-Accepted.ensures.run s held only) in
    then_parts run.order.now c.args.before c.args.parts.now _ _ run.at s _ _ _ _ _ _ _ _ _ _ c.in-Some.ensures.cases.0 c.import_parts.ensures.honest first
    c.import_parts.ensures.run

pub returns-in-Ok-Accepted-clause-item : goal.returns-in-Ok-Accepted-clause-item
returns-in-Ok-Accepted-clause-item g t c =
    bad_behind c.args.run.now.order.now c.args.before c.args.parts.now _ _ c.args.run.now.at c.import_parts.result c.in-Some.ensures.cases.0 c.import_parts.ensures.item

pub returns-in-Ok-Refused-clause-run : goal.returns-in-Ok-Refused-clause-run
returns-in-Ok-Refused-clause-run g t c s held only =
    let k = g.K.Keep in
    let run = c.args.run.now in
    let refused : c.in-Ok-Refused.field-0 ≡ Refused = search rules in
    let first = subst (λ e. IsRun (part_message run.order.now (c.args.before + 1) c.in-Some.part.now ∷ []) run.at s (Ok e) (k.is_honest c.import_part.new.desk)
    (k.holds c.import_part.new.desk) (k.after_stop c.import_part.new.desk) (g.W.Write.contents c.args.writer.now) (g.W.Write.contents c.import_part.new.writer))
    refused (c.in-Ok-Refused.ensures.run s held only) in
    cut_parts run.order.now c.args.before c.args.parts.now _ _ run.at s _ _ _ _ _ _ c.in-Some.ensures.cases.0 (λ e. absurd (cc)) first

pub returns-in-Err-clause-run : goal.returns-in-Err-clause-run
returns-in-Err-clause-run g t c s held only =
    cut_parts c.args.run.now.order.now c.args.before c.args.parts.now _ _ c.args.run.now.at s _ _ _ _ _ _ c.in-Some.ensures.cases.0 (λ e. absurd (cc))
    (c.in-Err.ensures.run s held only)

pub returns-in-Err-clause-item : goal.returns-in-Err-clause-item
returns-in-Err-clause-item g t c =
    bad_first c.args.run.now.order.now c.args.before c.args.parts.now _ _ c.args.run.now.at c.in-Err.fault.item c.in-Some.ensures.cases.0 c.in-Err.ensures.item

pub returns-in-Ok-Accepted-clause-bad : goal.returns-in-Ok-Accepted-clause-bad
returns-in-Ok-Accepted-clause-bad g t c is =
    unasked_behind c.args.run.now.order.now c.args.before c.args.parts.now _ _ c.args.run.now.at c.in-Some.ensures.cases.0 (c.import_parts.ensures.bad is)

pub returns-in-Err-clause-bad : goal.returns-in-Err-clause-bad
returns-in-Err-clause-bad g t c is =
    unasked_first c.args.run.now.order.now c.args.before c.args.parts.now _ _ c.args.run.now.at c.in-Some.ensures.cases.0 (c.in-Err.ensures.bad is)
