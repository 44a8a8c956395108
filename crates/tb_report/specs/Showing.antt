-- What a board shows of its tasks at a moment.
use Rattle.std.specs.Prelude.{ℕ, List, map, Option, Some, None, if◌then◌else◌}
use Rattle.tb_task.specs.declared.task.Task.{Task}
use Rattle.tb_task.specs.declared.incoming.Shown.{Shown}
use Rattle.tb_board.specs.declared.board.Board.{Board}
use Rattle.tb_board.specs.Board.{wake}
use Rattle.tb_board.specs.Tasks.{woken}
use Rattle.tb_board.specs.Statuses.{is_template}
use Rattle.tb_board.specs.Templates.{mask}

-- a template has a mask, of which each place tells how an instance stands
abbrev pub mask_on : Board → Task → Option (List ℕ)
mask_on b t = if is_template t then Some (mask b t.id) else None

-- a task of a board that is awake
abbrev pub shown_on : Board → Task → Shown
shown_on b t = record { task = t; mask = mask_on b t }

abbrev pub shown_awake : Board → List Shown
shown_awake b = map (shown_on b) b.tasks

-- every task of the woken board, in order of entry
-- Rule: a view wakes what it shows, and writes nothing. Tried by waiting_until.
abbrev pub shown : Board → ℕ → List Shown
shown b m = shown_awake (wake b m)

-- a task of the woken board
abbrev pub shown_task : Board → ℕ → Task → Shown
shown_task b m t = shown_on (wake b m) (woken m t)
