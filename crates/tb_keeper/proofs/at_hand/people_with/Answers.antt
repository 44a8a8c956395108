use Rattle.tb_keeper.specs.Counts.{is_new_person}
use Rattle.tb_keeper.proofs.Counted.{counted_all, counted_more}
use Rattle.tb_keeper.proofs.at_hand.people_with.Goals as goal

pub loop-change-preserved : goal.loop-change-preserved
loop-change-preserved c =
    counted_more is_new_person c.args.people c.loop-change.count c.with_one-count.result c.args.changes.now c.loop-change.change-index c.change-item.result c.loop-change-test.true c.change-item.is
    (rw c.is_new_person.ensures at c.with_one-count.ensures) c.loop-change.invariant

pub returns : goal.returns
returns c = counted_all is_new_person c.args.people c.loop-change.count c.args.changes.now c.loop-change.change-index c.loop-change-test.false c.loop-change.invariant
