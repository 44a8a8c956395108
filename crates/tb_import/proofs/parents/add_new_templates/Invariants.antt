use Rattle.std.proofs.Common.{◌≡◌, ◌||◌, ℕ, take}
use Rattle.std.specs.List.{list_any}
use Rattle.tb_import.specs.Entering.{is_new_template_with}
use Rattle.tb_import.specs.Sets.{has}
use Rattle.tb_import.proofs.parents.add_new_templates.Given as goal

abbrev pub invariant-loop-incoming : goal.invariant-loop-incoming
invariant-loop-incoming l = (q : ℕ) → has l.parents q ≡ (has l.fn.parents q || list_any (is_new_template_with q) (take l.incoming-index l.new))
