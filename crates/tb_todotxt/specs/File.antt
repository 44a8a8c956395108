-- The tasks of a file of lines.
use Rattle.std.specs.Prelude.{◌≡◌, ℕ, not, nat_lt, if◌then◌else◌, List, [], ◌∷◌, ◌++◌, length, bytes_eq, Result, Ok, Err}
use Rattle.std.specs.List.{filter}
use Rattle.std.specs.Str.Lines.{lines}
use Rattle.tb_task.specs.declared.task.Task.{Task}
use Rattle.tb_values.specs.Outcome.{Gives}
use Rattle.tb_todotxt.specs.Line.{is_blank}
use Rattle.tb_todotxt.specs.Reading.{line_of}
use Rattle.tb_todotxt.specs.Making.{task_of}
use Rattle.tb_todotxt.specs.declared.fault.FileFault.{FileFault}
use Rattle.tb_todotxt.specs.declared.fault.FileFault.TheVariants.{TooMany, Memory}
use Rattle.tb_task.specs.Limits.{most_items}

-- The lines that aren't skipped, which are those of spaces and tabs alone. A carriage return before a line feed isn't the line's.
-- Rule: blank lines are skipped and not counted. Tried by blank_lines.
abbrev pub kept_lines : List ℕ → List (List ℕ)
kept_lines text = filter (λ line. not (is_blank line)) (lines text)

-- how many of some lines are equal to one
abbrev pub count_of : List ℕ → List (List ℕ) → ℕ
count_of line lines = length (filter (λ other. bytes_eq other line) lines)

-- each line with those before it
abbrev pub tasks_after : ℕ → ℕ → List (List ℕ) → List (List ℕ) → List Task
tasks_after m board before [] = []
tasks_after m board before (line ∷ lines) =
    task_of (line_of line) m board (count_of line before)
    ∷ tasks_after m board (before ++ line ∷ []) lines

abbrev pub tasks_of : ℕ → ℕ → List (List ℕ) → List Task
tasks_of m board lines = tasks_after m board [] lines

-- at most 1,000 lines
abbrev pub tasks_within : ℕ → ℕ → List (List ℕ) → Result (List Task) FileFault
tasks_within m board lines = if nat_lt most_items (length lines) then Err TooMany
    else Ok (tasks_of m board lines)

-- the tasks of a text on a board at a moment
abbrev pub file_of : ℕ → ℕ → List ℕ → Result (List Task) FileFault
file_of m board text = tasks_within m board (kept_lines text)

-- the definition gives this fault, unless it is memory that ran out
abbrev pub FailsFile : {X : Type 0} → FileFault → Result X FileFault → Type 0
FailsFile TooMany read = read ≡ Err TooMany
FailsFile Memory read = Unit {0}

-- the answer is what the definition gives, unless memory ran out
abbrev pub ReadsFile : {X : Type 0} → Result X FileFault → Result X FileFault → Type 0
ReadsFile answer read = Gives FailsFile answer read
