use Rattle.std.proofs.Common.{◌≡◌, ◌++◌, flat_map, take}
use Rattle.tb_rows.specs.Steps.{gone_template}
use Rattle.tb_rows.proofs.concerned.push_gone_templates.Given as goal

abbrev pub invariant-loop-change : goal.invariant-loop-change
invariant-loop-change l = l.templates ≡ l.fn.templates ++ flat_map (gone_template l.board) (take l.change-index l.changes)
