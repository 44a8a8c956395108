-- Who did what on a board, in lines.
use Rattle.std.specs.Prelude.{ℕ, List, [], ◌++◌, codes, Option, Some, None, option_and_then, option_map}
use Rattle.serde_json.specs.Data.{Data}
use Rattle.serde_json.specs.Find.{as_array, get}
use Rattle.serde_json.specs.Read.{read}
use Rattle.tb_calls.specs.Word.{word_named}
use Rattle.tb_calls.specs.declared.word.Word.{Word}
use Rattle.tb_calls.specs.declared.word.Word.TheVariants as word
use Rattle.tb_finding.specs.Board.{Text}
use Rattle.tb_finding.specs.Showing.{named_from}
use Rattle.tb_finding.specs.Words.{moment_word}
use Rattle.tb_my.specs.Shown.{text_at, with_lines}
use Rattle.tb_my.specs.Telling.{shown_text, text_or}
use Rattle.tb_my.specs.declared.look.Seen.{Seen}
use Rattle.tb_my.specs.declared.zone.Clock.{Clock}
use Rattle.tb_task.specs.MomentText.{moment_of}
use Rattle.tb_task.specs.TaskId.{read_id}

-- what a word of a history says of who did it
abbrev pub verb_of_word : Word → Option Text
verb_of_word word.Add = Some (codes "added")
verb_of_word word.Import = Some (codes "imported tasks")
verb_of_word word.ImportTodo = Some (codes "imported tasks")
verb_of_word word.Done = Some (codes "completed")
verb_of_word word.Delete = Some (codes "deleted")
verb_of_word word.Reopen = Some (codes "reopened")
verb_of_word word.Start = Some (codes "started")
verb_of_word word.Stop = Some (codes "stopped")
verb_of_word word.Annotate = Some (codes "added a note to")
verb_of_word word.Denotate = Some (codes "removed a note from")
verb_of_word word.Modify = Some (codes "changed")
verb_of_word word.Depend = Some (codes "added a dependency to")
verb_of_word word.Undepend = Some (codes "removed a dependency from")
verb_of_word word.Sweep = Some (codes "had due tasks made")
verb_of_word word.Ahead = Some (codes "changed how far the board looks ahead")
verb_of_word word.Role = Some (codes "changed a role")
verb_of_word word.Take = Some (codes "took over the board")
verb_of_word word.Title = Some (codes "renamed the board")
verb_of_word other = None

abbrev pub verb_if : Option Word → Option Text
verb_if None = None
verb_if (Some named) = verb_of_word named

abbrev pub named_verb : Text → Option Text
named_verb what = verb_if (word_named what)

-- a word that isn't known stands as it is
abbrev pub verb_of : Text → Text
verb_of what = text_or (shown_text what) (named_verb what)

abbrev pub of_task : List Seen → Option ℕ → Text
of_task tasks None = []
of_task tasks (Some id) = codes " " ++ named_from id 0 tasks

-- `today 09:12: bob completed 3 Call bank`
abbrev pub line_of : Clock → List Seen → ℕ → Text → Text → Option ℕ → Text
line_of clock tasks moment member what task =
    moment_word clock moment
    ++ (codes ": "
    ++ (shown_text member ++ (codes " " ++ (verb_of what ++ (of_task tasks task ++ codes "\n")))))

abbrev pub moment_at : Data → Option ℕ
moment_at entry = option_and_then moment_of (text_at (codes "moment") entry)

abbrev pub task_in : Data → Option ℕ
task_in entry = option_and_then read_id (text_at (codes "task") entry)

abbrev pub entry_line : Clock → List Seen → Data → Option Text
entry_line clock tasks entry =
    option_and_then
    (λ moment.
    option_and_then
    (λ member.
    option_map (λ what. line_of clock tasks moment member what (task_in entry))
    (text_at (codes "what") entry)) (text_at (codes "member") entry)) (moment_at entry)

abbrev pub log_of : Clock → List Seen → Data → Option Text
log_of clock tasks value =
    option_and_then (with_lines (entry_line clock tasks) [])
    (option_and_then as_array (get (codes "entries") value))

-- of an answer that shows a history, if it is one
abbrev pub log_text : Clock → List Seen → Text → Option Text
log_text clock tasks body = option_and_then (log_of clock tasks) (read body)
