-- The messages that the words of a script are sent as.
use Rattle.std.specs.Prelude.{ℕ, List, [], ◌∷◌, ◌++◌, ◌&&◌, is_some, length, codes, decimal, Option, Some, None, option_and_then, option_map, if◌then◌else◌}
use Rattle.std.specs.Str.{bytes_eq}
use Rattle.serde_json.specs.Data.{Data, null, number, unsigned, string, object, member, no_members}
use Rattle.serde_json.specs.Written.{compact_text}
use Rattle.tb_task.specs.TaskId.{id_text, read_id}
use Rattle.tb_values.specs.Numerals.{number_to}
use Rattle.tb_board.specs.Ahead.{read_ahead}
use Rattle.tb_board.specs.Names.{is_name}
use Rattle.tb_calls.specs.Word.{word_named}
use Rattle.tb_calls.specs.declared.word.Word.{Word}
use Rattle.tb_calls.specs.declared.word.Word.TheVariants as word
use Rattle.tb_client.specs.Line.{add_body}
use Rattle.tb_client.specs.declared.message.Sender.{Sender}
use Rattle.tb_client.specs.declared.request.Request.{Request}

abbrev pub Text : Type 0
Text = List ℕ

-- ---- targets

-- a path below a board, whose number has no zero in front
abbrev pub board_target : Text → Text → Option Text
board_target board suffix = if is_some (number_to 4294967295 board)
    then Some (codes "/boards/" ++ (board ++ suffix)) else None

-- the path of a board's history from a number on
abbrev pub history_target : Text → Text → Option Text
history_target board first =
    if is_some (number_to 4294967295 board) && is_some (number_to 4294967295 first)
    then Some (codes "/boards/" ++ (board ++ (codes "/history/" ++ first))) else None

-- a path below a task of a board
abbrev pub task_target : Text → Text → Text → Option Text
task_target board uuid suffix =
    if is_some (number_to 4294967295 board) && is_some (read_id uuid)
    then Some (codes "/boards/" ++ (board ++ (codes "/tasks/" ++ (uuid ++ suffix)))) else None

-- the path of the key of a person
abbrev pub key_target : Text → Option Text
key_target name = if is_name name
    then Some (codes "/people/" ++ (name ++ codes "/key")) else None

-- ---- requests

abbrev pub view_at : Text → Request
view_at target = record { target = target; body = None }

abbrev pub call_at : Text → Text → Request
call_at body target = record { target = target; body = Some body }

-- each line with its line feed
abbrev pub lines_text : List Text → Text
lines_text [] = []
lines_text (line ∷ lines) = line ++ (10 ∷ lines_text lines)

abbrev pub board_view : Text → List Text → Option Request
board_view suffix (board ∷ []) = option_map view_at (board_target board suffix)
board_view suffix [] = None
board_view suffix (a ∷ b ∷ more) = None

-- the last entries of a history, or those from a number on
abbrev pub history_view : List Text → Option Request
history_view (board ∷ []) = option_map view_at (board_target board (codes "/history"))
history_view (board ∷ first ∷ []) = option_map view_at (history_target board first)
history_view [] = None
history_view (a ∷ b ∷ c ∷ more) = None

abbrev pub task_view : Text → List Text → Option Request
task_view suffix (board ∷ uuid ∷ []) = option_map view_at (task_target board uuid suffix)
task_view suffix [] = None
task_view suffix (a ∷ []) = None
task_view suffix (a ∷ b ∷ c ∷ more) = None

-- the boards of who asks
abbrev pub me_view : List Text → Option Request
me_view [] = Some (view_at (codes "/me"))
me_view (a ∷ more) = None

-- the body is the argument behind the board
abbrev pub board_call : Text → List Text → Option Request
board_call suffix (board ∷ body ∷ []) = option_map (call_at body) (board_target board suffix)
board_call suffix [] = None
board_call suffix (a ∷ []) = None
board_call suffix (a ∷ b ∷ c ∷ more) = None

-- a new task: its JSON, or the words of a line of todo.txt
abbrev pub add_call : List Text → Option Request
add_call [] = None
add_call (board ∷ words) =
    option_and_then (λ body. option_map (call_at body) (board_target board (codes "/tasks")))
    (add_body words)

-- each further argument is a line
abbrev pub lines_call : List Text → Option Request
lines_call (board ∷ lines) =
    option_map (call_at (lines_text lines)) (board_target board (codes "/import-todo"))
lines_call [] = None

abbrev pub bare_call : Text → List Text → Option Request
bare_call suffix (board ∷ []) = option_map (call_at []) (board_target board suffix)
bare_call suffix [] = None
bare_call suffix (a ∷ b ∷ more) = None

abbrev pub task_call : Text → List Text → Option Request
task_call suffix (board ∷ uuid ∷ []) = option_map (call_at []) (task_target board uuid suffix)
task_call suffix [] = None
task_call suffix (a ∷ []) = None
task_call suffix (a ∷ b ∷ c ∷ more) = None

-- the body is made of the argument behind the task
abbrev pub task_call_with : (Text → Text) → Text → List Text → Option Request
task_call_with body suffix (board ∷ uuid ∷ text ∷ []) =
    option_map (call_at (body text)) (task_target board uuid suffix)
task_call_with body suffix [] = None
task_call_with body suffix (a ∷ []) = None
task_call_with body suffix (a ∷ b ∷ []) = None
task_call_with body suffix (a ∷ b ∷ c ∷ d ∷ more) = None

abbrev pub note_data : Text → Data
note_data text = object (member (codes "description") (string text) no_members)

abbrev pub link_data : Text → Data
link_data other = object (member (codes "on") (string other) no_members)

abbrev pub person_data : Text → Text → Data
person_data name key =
    object (member (codes "key") (string key) (member (codes "name") (string name) no_members))

abbrev pub own_key_data : Text → Text → Data
own_key_data old key =
    object (member (codes "key") (string key) (member (codes "old") (string old) no_members))

-- `none` takes the key
abbrev pub key_data : Text → Data
key_data word = object (member (codes "key")
    (if bytes_eq word (codes "none") then null else string word) no_members)

abbrev pub title_data : Text → Data
title_data title = object (member (codes "title") (string title) no_members)

-- `none` ends a role
abbrev pub role_data : Text → Text → Data
role_data name word =
    object (member (codes "member") (string name)
    (member (codes "role")
    (if bytes_eq word (codes "none") then null else string word) no_members))

abbrev pub note_body : Text → Text
note_body text = compact_text (note_data text)

abbrev pub link_body : Text → Text
link_body other = compact_text (link_data other)

abbrev pub person_call : List Text → Option Request
person_call (name ∷ key ∷ []) =
    Some (call_at (compact_text (person_data name key)) (codes "/people"))
person_call [] = None
person_call (a ∷ []) = None
person_call (a ∷ b ∷ c ∷ more) = None

abbrev pub own_key_call : List Text → Option Request
own_key_call (old ∷ key ∷ []) =
    Some (call_at (compact_text (own_key_data old key)) (codes "/me/key"))
own_key_call [] = None
own_key_call (a ∷ []) = None
own_key_call (a ∷ b ∷ c ∷ more) = None

abbrev pub key_call : List Text → Option Request
key_call (name ∷ word ∷ []) = option_map (call_at (compact_text (key_data word))) (key_target name)
key_call [] = None
key_call (a ∷ []) = None
key_call (a ∷ b ∷ c ∷ more) = None

abbrev pub title_call : List Text → Option Request
title_call (title ∷ []) = Some (call_at (compact_text (title_data title)) (codes "/boards"))
title_call [] = None
title_call (a ∷ b ∷ more) = None

-- gives a board another title
abbrev pub retitle_call : List Text → Option Request
retitle_call (board ∷ title ∷ []) =
    option_map (call_at (compact_text (title_data title))) (board_target board (codes "/title"))
retitle_call [] = None
retitle_call (a ∷ []) = None
retitle_call (a ∷ b ∷ c ∷ more) = None

abbrev pub role_call : List Text → Option Request
role_call (board ∷ name ∷ word ∷ []) =
    option_map (call_at (compact_text (role_data name word))) (board_target board (codes "/roles"))
role_call [] = None
role_call (a ∷ []) = None
role_call (a ∷ b ∷ []) = None
role_call (a ∷ b ∷ c ∷ d ∷ more) = None

abbrev pub ahead_data : ℕ → Data
ahead_data n = object (member (codes "ahead") (number (unsigned n)) no_members)

-- sets how many instances of each recurring task stand on the board ahead of their dates
abbrev pub ahead_request : Text → ℕ → Option Request
ahead_request board n =
    option_map (call_at (compact_text (ahead_data n))) (board_target board (codes "/ahead"))

abbrev pub ahead_call : List Text → Option Request
ahead_call (board ∷ n ∷ []) =
    option_and_then (ahead_request board) (option_and_then read_ahead (number_to 4294967295 n))
ahead_call [] = None
ahead_call (a ∷ []) = None
ahead_call (a ∷ b ∷ c ∷ more) = None

unfoldable pub request_for : Word → List Text → Option Request
request_for word.List arguments = board_view (codes "/list") arguments
request_for word.Export arguments = board_view (codes "/export") arguments
request_for word.Todo arguments = board_view (codes "/todo") arguments
request_for word.People arguments = board_view (codes "/people") arguments
request_for word.Me arguments = me_view arguments
request_for word.History arguments = history_view arguments
request_for word.HistoryOf arguments = task_view (codes "/history") arguments
request_for word.Task arguments = task_view [] arguments
request_for word.Add arguments = add_call arguments
request_for word.Import arguments = board_call (codes "/import") arguments
request_for word.ImportTodo arguments = lines_call arguments
request_for word.Done arguments = task_call (codes "/done") arguments
request_for word.Delete arguments = task_call (codes "/delete") arguments
request_for word.Reopen arguments = task_call (codes "/reopen") arguments
request_for word.Start arguments = task_call (codes "/start") arguments
request_for word.Stop arguments = task_call (codes "/stop") arguments
request_for word.Annotate arguments = task_call_with note_body (codes "/annotate") arguments
request_for word.Denotate arguments = task_call_with note_body (codes "/denotate") arguments
request_for word.Modify arguments = task_call_with (λ body. body) (codes "/modify") arguments
request_for word.Depend arguments = task_call_with link_body (codes "/depend") arguments
request_for word.Undepend arguments = task_call_with link_body (codes "/undepend") arguments
request_for word.Sweep arguments = bare_call (codes "/sweep") arguments
request_for word.Person arguments = person_call arguments
request_for word.Board arguments = title_call arguments
request_for word.Role arguments = role_call arguments
request_for word.OwnKey arguments = own_key_call arguments
request_for word.Key arguments = key_call arguments
request_for word.Take arguments = bare_call (codes "/take") arguments
request_for word.Title arguments = retitle_call arguments
request_for word.Ahead arguments = ahead_call arguments

unfoldable pub request_named : Text → List Text → Option Request
request_named name arguments =
    option_and_then (λ word. request_for word arguments) (word_named name)

-- what the words of a script ask a server for
abbrev pub request_of : List Text → Option Request
request_of (word ∷ arguments) = request_named word arguments
request_of [] = None

-- ---- messages

-- the host, who sends it, and that the connection ends with the answer
unfoldable pub sender_lines : Sender → Text
sender_lines sender =
    codes "host: " ++ (sender.server
    ++ (codes "\r\nx-member: "
    ++ (sender.member
    ++ (codes "\r\nx-key: " ++ (sender.key ++ codes "\r\nconnection: close\r\n")))))

abbrev pub view_message : Sender → Text → Text
view_message sender target =
    codes "GET " ++ (target ++ (codes " HTTP/1.1\r\n" ++ (sender_lines sender ++ codes "\r\n")))

abbrev pub call_message : Sender → ℕ → Text → Text → Text
call_message sender id target body =
    codes "POST " ++ (target ++ (codes " HTTP/1.1\r\n" ++ (sender_lines sender
    ++ (codes "x-request-id: "
    ++ (id_text id ++ (codes "\r\ncontent-length: "
    ++ (decimal (length body) ++ (codes "\r\n\r\n" ++ body))))))))

-- the bytes of the message of a request; a view's has no identifier
abbrev pub message_with : Sender → ℕ → Text → Option Text → Text
message_with sender id target None = view_message sender target
message_with sender id target (Some body) = call_message sender id target body

abbrev pub message_of : Sender → ℕ → Request → Text
message_of sender id request = message_with sender id request.target request.body
