use Rattle.std.proofs.Common.{sym, ◌∙◌}
use Rattle.tb_board.specs.Tasks.{has_id}
use Rattle.tb_board.proofs.Linking.{place_by_id}
use Rattle.tb_board.proofs.Places.{place}
use Rattle.tb_board.proofs.task_list.TaskList.place_of.Goals as goal

pub returns-clause-position : goal.returns-clause-position
returns-clause-position c = c.sought_place.ensures ∙ sym (place_by_id c.args.self.now c.args.id)

pub returns-clause-first : goal.returns-clause-first
returns-clause-first c = rw (c.sought_place.ensures ∙ sym (place_by_id c.args.self.now c.args.id)) (place (has_id c.args.id) c.args.self.now)
