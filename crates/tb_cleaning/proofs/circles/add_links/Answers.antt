use Rattle.std.proofs.Common.{arith}
use Rattle.tb_cleaning.proofs.Graphs.{link_more}
use Rattle.tb_cleaning.proofs.circles.add_links.Goals as goal

pub loop-place-preserved : goal.loop-place-preserved
loop-place-preserved c =
    link_more c.args.nodes c.args.graph.now c.loop-place.graph c.add_link.new.graph c.args.from c.args.places.now c.loop-place.place-index
    (omega (arith, c.requires.nodes, c.requires.from)) c.loop-place-test.true c.loop-place.invariant c.in_ok-add_link.ensures
