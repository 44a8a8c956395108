use Rattle.std.proofs.Common.{◌≡◌, map, take}
use Rattle.tb_report.specs.Showing.{shown_on}
use Rattle.tb_report.proofs.showing.shown_awake.Given as goal

-- the tasks so far are shown
abbrev pub invariant-loop-task : goal.invariant-loop-task
invariant-loop-task l = l.tasks ≡ map (shown_on l.board) (take l.task-index l.task-items)
