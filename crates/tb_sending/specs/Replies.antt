-- What is printed of a reply, and how its order ends.
use Rattle.std.specs.Prelude.{ℕ, ◌==◌, ◌&&◌, Bool, true, false, List, [], ◌∷◌, ◌++◌, option_map, unwrap_or, if◌then◌else◌}
use Rattle.tb_calls.specs.Word.{word_named}
use Rattle.tb_calls.specs.declared.word.Word.{Word}
use Rattle.tb_calls.specs.declared.word.Word.TheVariants as word
use Rattle.tb_client.specs.Request.{Text}
use Rattle.tb_client.specs.declared.answer.Reply.{Reply}
use Rattle.tb_orders.specs.declared.ending.Ending.{Ending}
use Rattle.tb_orders.specs.declared.ending.Ending.TheVariants.{Accepted, Refused}

abbrev pub ending_at : ℕ → Ending
ending_at status = if status == 200 then Accepted else Refused

-- a listing and todo.txt end their lines themselves
abbrev pub is_lines : Word → Bool
is_lines word.List = true
is_lines word.Export = false
is_lines word.Todo = true
is_lines word.Task = false
is_lines word.Add = false
is_lines word.Import = false
is_lines word.ImportTodo = false
is_lines word.Done = false
is_lines word.Delete = false
is_lines word.Reopen = false
is_lines word.Start = false
is_lines word.Stop = false
is_lines word.Annotate = false
is_lines word.Denotate = false
is_lines word.Modify = false
is_lines word.Depend = false
is_lines word.Undepend = false
is_lines word.Sweep = false
is_lines word.Ahead = false
is_lines word.Person = false
is_lines word.Board = false
is_lines word.Role = false
is_lines word.OwnKey = false
is_lines word.Key = false
is_lines word.Take = false
is_lines word.Title = false
is_lines word.People = false
is_lines word.History = false
is_lines word.HistoryOf = false
is_lines word.Me = false

abbrev pub asks_for_lines : List Text → Bool
asks_for_lines [] = false
asks_for_lines (name ∷ arguments) = unwrap_or (option_map is_lines (word_named name)) false

-- the body as it is where it ends its lines itself, and else on a line
abbrev pub reply_text : List Text → Reply → Text
reply_text words reply =
    if reply.status == 200 && asks_for_lines words then reply.body else reply.body ++ 10 ∷ []
