use Rattle.std.proofs.Common.{sym, ◌∙◌}
use Rattle.tb_board.proofs.task_index.TaskIndex.tightened.Goals as goal

pub returns : goal.returns
returns c = record { places = c.requires.places; least = c.requires.least; waits = λ m none. sym (c.of.ensures m) ∙ none; templates = c.requires.templates }
