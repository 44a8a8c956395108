use Rattle.std.proofs.Common.{◌≡◌, ◌++◌, map, drop, string_bytes}
use Rattle.tb_json.specs.ListText.{list_text}
use Rattle.tb_json.specs.Writing.{shown_text}
use Rattle.tb_json.proofs.ListSteps.{tail_of}
use Rattle.tb_json.proofs.writing.write_tasks.Given as goal

-- what is written and what is to come are the whole
abbrev pub invariant-loop-task : goal.invariant-loop-task
invariant-loop-task l = string_bytes l.text ++ tail_of l.is_first (map shown_text (drop l.task-index l.tasks)) ≡ list_text (map shown_text l.tasks)
