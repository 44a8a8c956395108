use Rattle.std.proofs.Common.{arith, length}
use Rattle.tb_cleaning.proofs.Graphs.{links_all, links_more}
use Rattle.tb_cleaning.proofs.circles.graph_of.Goals as goal

pub loop-from-preserved : goal.loop-from-preserved
loop-from-preserved c =
    record {
      inside = omega (arith, c.loop-from-test.true);
      links = links_more (length c.args.links.now) c.args.links.now c.loop-from.from c.loop-from.graph c.add_links.new.graph c.loop-from-test.true
          c.loop-from.invariant.links (rw c.places_at.ensures at c.in_ok-add_links.ensures);
    }

pub returns : goal.returns
returns c = links_all c.args.links.now c.loop-from.from c.loop-from.graph c.loop-from.invariant.inside c.loop-from-test.false c.loop-from.invariant.links
