use Rattle.std.proofs.Common.{◌∙◌}
use Rattle.tb_board.proofs.Linking as linking
use Rattle.tb_board.proofs.links.place_by_id.Goals as goal

pub returns : goal.returns
returns c = c.first_task.ensures ∙ linking.place_by_id c.args.tasks.now c.args.id
