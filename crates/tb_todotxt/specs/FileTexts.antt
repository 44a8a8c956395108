-- The text of a file of tasks.
use Rattle.std.specs.Prelude.{ℕ, List, [], ◌∷◌, ◌++◌, Option, Some, None}
use Rattle.tb_task.specs.declared.checks.Field.{Field}
use Rattle.tb_task.specs.declared.incoming.Shown.{Shown}
use Rattle.tb_task.specs.declared.task.Task.{Task}
use Rattle.tb_task.specs.Checks.{fault_of}
use Rattle.tb_todotxt.specs.Showing.{line_for}
use Rattle.tb_todotxt.specs.Line.{spell}
use Rattle.tb_todotxt.specs.declared.line.LineParts.{LineParts}

-- a line and a line feed
abbrev pub ended : Option LineParts → List ℕ
ended None = []
ended (Some line) = spell line ++ 10 ∷ []

-- a task that has a fault, which none on a board has, isn't shown
abbrev pub ended_unless : Option Field → Option LineParts → List ℕ
ended_unless None line = ended line
ended_unless (Some fault) line = []

abbrev pub line_text : Task → List ℕ
line_text t = ended_unless (fault_of t) (line_for t)

-- a line for each task that has one, in their order
abbrev pub file_text : List Shown → List ℕ
file_text [] = []
file_text (s ∷ ss) = line_text s.task ++ file_text ss
