use Rattle.std.proofs.Common.{◌≤◌, arith, length-take-le, rules, take}
use Rattle.tb_good.proofs.Counting.{counts_next, few_among}
use Rattle.tb_good.proofs.runs.counts_of.Goals as goal

pub overflow_add-count : goal.overflow_add-count
overflow_add-count c =
    let i = c.loop-place.place-index in
    let id = c.place-item.result.0 in
    let few : c.count_of-count.result ≤ i =
    omega (arith, c.count_of-count.ensures, c.loop-place.invariant id, few_among id (take i c.args.places.now), length-take-le i c.args.places.now (omega (arith, c.loop-place-test.true))) in
    search rules

pub loop-place-preserved : goal.loop-place-preserved
loop-place-preserved c =
    counts_next c.args.places.now c.loop-place.place-index c.count_of-count.result c.place-item.result c.loop-place.counts c.insert.new.self
    c.loop-place-test.true c.place-item.is c.count_of-count.ensures c.loop-place.invariant c.in_ok-insert.ensures.updates.0
