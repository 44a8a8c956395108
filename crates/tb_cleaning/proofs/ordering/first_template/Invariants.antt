use Rattle.std.proofs.Common.{◌≡◌, drop}
use Rattle.tb_cleaning.specs.Ordering.{left_from}
use Rattle.tb_cleaning.proofs.ordering.first_template.Given as goal

abbrev pub invariant-loop-place : goal.invariant-loop-place
invariant-loop-place l = left_from l.done l.place (drop l.place l.templates) ≡ left_from l.done 0 l.templates
