use Rattle.std.proofs.Common.{sym, ◌∙◌}
use Rattle.std.proofs.lemmas.List.{length-map}
use Rattle.tb_task.specs.declared.task.Task.{Task}
use Rattle.tb_board.proofs.Indexed.{places_new}
use Rattle.tb_board.proofs.task_index.places_with.Goals as goal

pub returns : goal.returns
returns c = places_new _ c.args.places c.insert.new.self c.args.id _ c.requires (sym (length-map c.args.tasks.now (λ (t : Task). t.id))) (sym c.contains_key.ensures ∙ c.if-contains_key.false) c.in_ok-insert.ensures.updates.0
