-- The words of `my`.
use Rattle.std.specs.Prelude.{ℕ, Bool, true, false, ◌||◌, List, Option, Some, None, codes, if◌then◌else◌}
use Rattle.std.specs.Str.{bytes_eq}
use Rattle.tb_my.specs.declared.word.MyWord.{MyWord}
use Rattle.tb_my.specs.declared.word.MyWord.TheVariants as word

unfoldable pub my_word_named : List ℕ → Option MyWord
my_word_named name =
    if bytes_eq name (codes "list") || bytes_eq name (codes "ls") then Some word.List
    else if bytes_eq name (codes "next") then Some word.Next
    else if bytes_eq name (codes "projects") then Some word.Projects
    else if bytes_eq name (codes "tags") then Some word.Tags
    else if bytes_eq name (codes "boards") then Some word.Boards
    else if bytes_eq name (codes "people") then Some word.People
    else if bytes_eq name (codes "export") then Some word.Export
    else if bytes_eq name (codes "todo") then Some word.Todo
    else if bytes_eq name (codes "use") then Some word.Use
    else if bytes_eq name (codes "undo") then Some word.Undo
    else if bytes_eq name (codes "setup") then Some word.Setup
    else if bytes_eq name (codes "import") then Some word.Import
    else if bytes_eq name (codes "show") then Some word.Show
    else if bytes_eq name (codes "log") then Some word.Log
    else if bytes_eq name (codes "add") then Some word.Add
    else if bytes_eq name (codes "change") || bytes_eq name (codes "modify")
    then Some word.Change
    else if bytes_eq name (codes "append") then Some word.Append
    else if bytes_eq name (codes "prepend") then Some word.Prepend
    else if bytes_eq name (codes "copy") then Some word.Copy
    else if bytes_eq name (codes "done") then Some word.Done
    else if bytes_eq name (codes "delete") then Some word.Delete
    else if bytes_eq name (codes "reopen") then Some word.Reopen
    else if bytes_eq name (codes "start") then Some word.Start
    else if bytes_eq name (codes "stop") then Some word.Stop
    else if bytes_eq name (codes "note") then Some word.Note
    else if bytes_eq name (codes "unnote") then Some word.Unnote
    else if bytes_eq name (codes "needs") then Some word.Needs
    else if bytes_eq name (codes "free") then Some word.Free
    else None

-- tasks stand behind the word
abbrev pub is_of_task : MyWord → Bool
is_of_task word.List = false
is_of_task word.Next = false
is_of_task word.Projects = false
is_of_task word.Tags = false
is_of_task word.Boards = false
is_of_task word.People = false
is_of_task word.Export = false
is_of_task word.Todo = false
is_of_task word.Use = false
is_of_task word.Undo = false
is_of_task word.Setup = false
is_of_task word.Import = false
is_of_task word.Add = false
is_of_task _ = true
