use Rattle.std.proofs.Common.{ap, ◌+◌, ◌∙◌, subst, sym, arith}
use Rattle.std.proofs.lemmas.Option.{slice_get-get_or}
use Rattle.std.specs.Option.{option_and_then}
use Rattle.tb_timeouts.proofs.EarliestBelow.{EarliestBelow, one_more}
use Rattle.tb_timeouts.specs.Stage.{end_of}
use Rattle.tb_timeouts.proofs.earliest.earliest.Goals as goal

pub loop-place-preserved : goal.loop-place-preserved
loop-place-preserved c =
    let ends = end_of c.args.limits.now in
    let stages = c.args.stages.now in
    let place = c.loop-place.place in
    subst (λ found. EarliestBelow ends stages (place + 1) found) (sym c.earlier-found.ensures)
    (one_more ends stages place c.loop-place.found c.end.result
    (ap (option_and_then ends) (slice_get-get_or stages place _ (omega (arith, c.loop-place-test.true))) ∙ sym c.end.ensures)
    c.loop-place.invariant)
