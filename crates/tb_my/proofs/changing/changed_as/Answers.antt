use Rattle.tb_my.proofs.Changed.{changed_is}
use Rattle.tb_my.proofs.changing.changed_as.Goals as goal

pub returns : goal.returns
returns c =
    changed_is c.args.clock.now c.args.me.now c.args.board.now c.args.tasks.now c.args.edit c.args.first.now c.args.further.now c.args.words.now
    c.in_ok-named.named c.as_slice.result.now c.new.result c.in_ok-said.said c.changed_all.result c.in_ok-named.ensures c.new.ensures c.in_ok-said.ensures
    c.as_slice.ensures c.changed_all.ensures
