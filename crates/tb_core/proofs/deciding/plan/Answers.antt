use Rattle.tb_core.proofs.Planning.{planned_gives}
use Rattle.tb_core.proofs.deciding.plan.Goals as goal

pub add-requires : goal.add-requires
add-requires c = c.requires _ c.in-Add.is

pub returns-in-OnTask-clause-gives : goal.returns-in-OnTask-clause-gives
returns-in-OnTask-clause-gives c =
    rw (c.in-OnTask.is, c.planned-in-OnTask.ensures) (planned_gives c.args.board.now _ c.act.result _ c.act.ensures.gives)
