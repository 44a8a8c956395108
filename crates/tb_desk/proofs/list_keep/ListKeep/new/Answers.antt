use Rattle.tb_desk.proofs.Lists.{opened}
use Rattle.tb_desk.proofs.list_keep.ListKeep.new.Goals as goal

pub returns : goal.returns
returns c = opened _ _ _ c.args.name.now c.args.key.now c.in_ok-world.ensures c.new.ensures.empty c.new-2.ensures.items
