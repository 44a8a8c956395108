-- The arguments of a line that hold more than a word: JSON, and lines.
use Rattle.std.specs.Prelude.{ℕ, List, [], ◌∷◌, Result, Ok, Err}
use Rattle.std.specs.List.{join_by}
use Rattle.tb_task.specs.declared.edit.Edit.{Edit}
use Rattle.tb_task.specs.declared.incoming.Incoming.{Incoming}
use Rattle.tb_task.specs.declared.task.Task.{Task}
use Rattle.tb_asking.specs.declared.body_fault.BadBody.{BadBody as BodyRefused}
use Rattle.tb_asking.specs.Bodies as body
use Rattle.tb_script.specs.declared.line_fault.Unreadable.{Unreadable}
use Rattle.tb_script.specs.declared.line_fault.Unreadable.TheVariants.{BadBody}

-- a line whose body can't be taken can't be read
abbrev pub or_unreadable : {A : Type 0} → Result A BodyRefused → Result A Unreadable
or_unreadable (Ok x) = Ok x
or_unreadable (Err fault) = Err (BadBody fault)

-- the task that a text is when it comes in at a moment
abbrev pub incoming_in : List ℕ → ℕ → Result Incoming Unreadable
incoming_in text at = or_unreadable (body.incoming_in text at)

-- the edits that a text asks for
abbrev pub edits_in : List ℕ → Result (List Edit) Unreadable
edits_in text = or_unreadable (body.edits_in text)

-- the tasks of an import's text at a moment
abbrev pub import_in : List ℕ → ℕ → Result (List Incoming) Unreadable
import_in text at = or_unreadable (body.import_in text at)

-- the lines with a line feed between each two
abbrev pub joined : List (List ℕ) → List ℕ
joined lines = join_by (λ line. line) (10 ∷ []) lines

-- the tasks that lines make on a board at a moment
abbrev pub tasks_in : List (List ℕ) → ℕ → ℕ → Result (List Task) Unreadable
tasks_in lines at board = or_unreadable (body.todo_in (joined lines) at board)
