use Rattle.std.proofs.Common.{◌≡◌, ◌||◌, ℕ, take}
use Rattle.std.specs.List.{list_any}
use Rattle.tb_board.specs.Instances.{is_template_with}
use Rattle.tb_import.specs.Sets.{has}
use Rattle.tb_import.proofs.parents.add_templates.Given as goal

abbrev pub invariant-loop-task : goal.invariant-loop-task
invariant-loop-task l = (q : ℕ) → has l.parents q ≡ (has l.fn.parents q || list_any (is_template_with q) (take l.task-index l.tasks))
