use Rattle.std.proofs.Common.{arith}
use Rattle.tb_board.specs.Tasks.{ids}
use Rattle.tb_board.proofs.Linking.{link_more}
use Rattle.tb_board.proofs.links.add_depends.Goals as goal

pub loop-id-preserved : goal.loop-id-preserved
loop-id-preserved c =
    link_more (ids c.args.tasks.now) c.args.links.now c.loop-id.links c.add_link.new.links c.args.from c.as_slice-id-items.result.now c.loop-id.id-index c.id-item.result
    (omega (arith, c.requires.nodes, c.requires.from)) c.loop-id-test.true c.id-item.is c.loop-id.invariant c.in_ok-add_link.ensures
