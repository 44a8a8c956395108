use Rattle.std.proofs.Common.{arith}
use Rattle.tb_board.specs.Tasks.{ids}
use Rattle.tb_board.proofs.Linking.{links_all, links_more}
use Rattle.tb_board.proofs.links.links_by.Goals as goal

pub loop-from-preserved : goal.loop-from-preserved
loop-from-preserved c =
    record {
      within = omega (arith, c.loop-from-test.true);
      links = links_more (ids c.args.tasks.now) c.args.tasks.now c.loop-from.from c.loop-from.links c.add_depends.new.links c.loop-from-test.true
          c.loop-from.invariant.links c.in_ok-add_depends.ensures;
    }

pub returns : goal.returns
returns c = λ b is.
    let before = rw is at c.loop-from.invariant in
    let whole = rw is at c.loop-from-test.false in
    links_all b c.loop-from.from c.loop-from.links before.within whole before.links
