-- The words of scripts and of the command line.
use Rattle.std.specs.Prelude.{ℕ, List, Option, Some, None, codes, if◌then◌else◌}
use Rattle.std.specs.Str.{bytes_eq}
use Rattle.tb_calls.specs.declared.word.Word.{Word}
use Rattle.tb_calls.specs.declared.word.Word.TheVariants as word

unfoldable pub word_named : List ℕ → Option Word
word_named name =
    if bytes_eq name (codes "list") then Some word.List
    else if bytes_eq name (codes "export") then Some word.Export
    else if bytes_eq name (codes "todo") then Some word.Todo
    else if bytes_eq name (codes "task") then Some word.Task
    else if bytes_eq name (codes "add") then Some word.Add
    else if bytes_eq name (codes "import") then Some word.Import
    else if bytes_eq name (codes "import-todo") then Some word.ImportTodo
    else if bytes_eq name (codes "done") then Some word.Done
    else if bytes_eq name (codes "delete") then Some word.Delete
    else if bytes_eq name (codes "reopen") then Some word.Reopen
    else if bytes_eq name (codes "start") then Some word.Start
    else if bytes_eq name (codes "stop") then Some word.Stop
    else if bytes_eq name (codes "annotate") then Some word.Annotate
    else if bytes_eq name (codes "denotate") then Some word.Denotate
    else if bytes_eq name (codes "modify") then Some word.Modify
    else if bytes_eq name (codes "depend") then Some word.Depend
    else if bytes_eq name (codes "undepend") then Some word.Undepend
    else if bytes_eq name (codes "sweep") then Some word.Sweep
    else if bytes_eq name (codes "ahead") then Some word.Ahead
    else if bytes_eq name (codes "person") then Some word.Person
    else if bytes_eq name (codes "board") then Some word.Board
    else if bytes_eq name (codes "role") then Some word.Role
    else if bytes_eq name (codes "own-key") then Some word.OwnKey
    else if bytes_eq name (codes "key") then Some word.Key
    else if bytes_eq name (codes "take") then Some word.Take
    else if bytes_eq name (codes "title") then Some word.Title
    else if bytes_eq name (codes "people") then Some word.People
    else if bytes_eq name (codes "history") then Some word.History
    else if bytes_eq name (codes "history-of") then Some word.HistoryOf
    else if bytes_eq name (codes "me") then Some word.Me
    else None
