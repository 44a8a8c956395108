use Rattle.std.proofs.Common.{take}
use Rattle.tb_board.specs.TemplateIndex.{IsTemplateIndex}
use Rattle.tb_board.proofs.template_index.TemplateIndex.of.Given as goal

abbrev pub invariant-loop-place : goal.invariant-loop-place
invariant-loop-place l = IsTemplateIndex (take l.place l.tasks) l.index
