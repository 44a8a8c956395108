use Rattle.std.proofs.Common.{◌≡◌, ◌∙◌, ap, sym, arith, get_or, ◌-◌}
use Rattle.std.specs.Ordering.{is_gt}
use Rattle.tb_values.proofs.Places.{not-greater, greater, place-le, place-gt, place-le-length}
use Rattle.tb_values.proofs.ordered.place_of.Goals as goal

pub loop-place-init : goal.loop-place-init
loop-place-init g c = record { within = omega arith; reached = place-le-length g.T.Keyed.order c.args.item.now c.args.items.now }

pub loop-place-preserved : goal.loop-place-preserved
loop-place-preserved g c =
    let read : c.compare.result ≡ g.T.Keyed.order c.args.item.now (get_or c.args.items.now (c.loop-place.place - 1) c.index-items-place.result)
    = c.compare.ensures ∙ ap (g.T.Keyed.order c.args.item.now) c.index-items-place.is in
    let test = c.loop-place-test.true in
    let within = c.loop-place.invariant.within in
    record {
      within = omega arith;
      reached = place-le g.T.Keyed.order c.args.item.now c.args.items.now (c.loop-place.place - 1) c.index-items-place.result (omega arith)
          (ap is_gt (sym read) ∙ not-greater c.compare.result (sym c.if-ne.true ∙ c.ne.ensures));
    }

pub returns-else-ne : goal.returns-else-ne
returns-else-ne g c =
    let read : c.compare.result ≡ g.T.Keyed.order c.args.item.now (get_or c.args.items.now (c.loop-place.place - 1) c.index-items-place.result)
    = c.compare.ensures ∙ ap (g.T.Keyed.order c.args.item.now) c.index-items-place.is in
    let test = c.loop-place-test.true in
    let within = c.loop-place.invariant.within in
    let reached = c.loop-place.invariant.reached in
    let later = place-gt g.T.Keyed.order g.met.T.Keyed.total c.args.item.now c.args.items.now (c.loop-place.place - 1) c.index-items-place.result c.requires (omega arith)
    (sym read ∙ greater c.compare.result (sym c.if-ne.false ∙ c.ne.ensures)) in
    omega arith
