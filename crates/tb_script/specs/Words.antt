-- What the words of a line ask of their arguments.
use Rattle.std.specs.Prelude.{ℕ, List, [], ◌∷◌, Result, Ok, Err}
use Rattle.tb_values.specs.Outcome.{◌>>=◌}
use Rattle.tb_task.specs.TaskId.{read_id}
use Rattle.tb_board.specs.Names.{read_name, read_key, read_title}
use Rattle.tb_core.specs.declared.action.Action.{Action}
use Rattle.tb_core.specs.declared.action.Action.TheVariants.{Done, Delete, Reopen, Start, Stop, Annotate, Denotate}
use Rattle.tb_core.specs.declared.command.BoardCommand.TheVariants.{Add, Depend, Import, Modify, OnTask, Retitle, SetAhead, Sweep, Undepend}
use Rattle.tb_core.specs.declared.command.Command.TheVariants.{NewBoard, NewPerson, OnBoard, OwnKey, SetKey, SetRole, Take}
use Rattle.tb_core.specs.declared.command.Import.TheVariants.{Json, Todo as Lines}
use Rattle.tb_script.specs.declared.asked.Request.{Request}
use Rattle.tb_script.specs.declared.asked.Request.TheVariants.{Call, View as ViewOf}
use Rattle.tb_calls.specs.Word.{word_named}
use Rattle.tb_calls.specs.declared.view.View.TheVariants.{Listing, Export, Todo, One, People, History, HistoryFrom, HistoryOf, Me}
use Rattle.tb_calls.specs.declared.word.Word.{Word}
use Rattle.tb_calls.specs.declared.word.Word.TheVariants as word
use Rattle.tb_script.specs.declared.line_fault.Unreadable.{Unreadable}
use Rattle.tb_script.specs.declared.line_fault.Unreadable.TheVariants.{BadLine}
use Rattle.tb_script.specs.Arguments.{ahead_number, board_number, key_or_none, role_named}
use Rattle.tb_script.specs.Body.{edits_in, import_in, incoming_in, tasks_in}
use Rattle.tb_script.specs.Outcome.{or_bad_line}

-- ---- a word has its number of arguments

abbrev pub none : {A : Type 0} → A → List (List ℕ) → Result A Unreadable
none asks [] = Ok asks
none asks (a ∷ more) = Err BadLine

abbrev pub one : {A : Type 0} → (List ℕ → Result A Unreadable) → List (List ℕ) → Result A Unreadable
one asks (a ∷ []) = asks a
one asks [] = Err BadLine
one asks (a ∷ b ∷ more) = Err BadLine

abbrev pub two : {A : Type 0} → (List ℕ → List ℕ → Result A Unreadable) → List (List ℕ)
    → Result A Unreadable
two asks (a ∷ b ∷ []) = asks a b
two asks [] = Err BadLine
two asks (a ∷ []) = Err BadLine
two asks (a ∷ b ∷ c ∷ more) = Err BadLine

abbrev pub three : {A : Type 0} → (List ℕ → List ℕ → List ℕ → Result A Unreadable) → List (List ℕ)
    → Result A Unreadable
three asks (a ∷ b ∷ c ∷ []) = asks a b c
three asks [] = Err BadLine
three asks (a ∷ []) = Err BadLine
three asks (a ∷ b ∷ []) = Err BadLine
three asks (a ∷ b ∷ c ∷ d ∷ more) = Err BadLine

-- the number of a board, and the identifier of a task
unfoldable pub task : List ℕ → List ℕ → Result (ℕ × ℕ) Unreadable
task board uuid = do
  n ← or_bad_line (board_number board)
  id ← or_bad_line (read_id uuid)
  Ok (n, id)

-- a task, and the identifier of the one on which it depends
unfoldable pub link : List ℕ → List ℕ → List ℕ → Result ((ℕ × ℕ) × ℕ) Unreadable
link board uuid other = do
  t ← task board uuid
  on ← or_bad_line (read_id other)
  Ok (t, on)

-- ---- views

abbrev pub listing : List ℕ → Result Request Unreadable
listing board = do
  n ← or_bad_line (board_number board)
  Ok (ViewOf (Listing n))

abbrev pub export : List ℕ → Result Request Unreadable
export board = do
  n ← or_bad_line (board_number board)
  Ok (ViewOf (Export n))

abbrev pub todo : List ℕ → Result Request Unreadable
todo board = do
  n ← or_bad_line (board_number board)
  Ok (ViewOf (Todo n))

abbrev pub showing : List (List ℕ) → Result Request Unreadable
showing arguments = do
  t ← two task arguments
  Ok (ViewOf (One t.0 t.1))

abbrev pub people : List ℕ → Result Request Unreadable
people board = do
  n ← or_bad_line (board_number board)
  Ok (ViewOf (People n))

abbrev pub last_entries : List ℕ → Result Request Unreadable
last_entries board = do
  n ← or_bad_line (board_number board)
  Ok (ViewOf (History n))

abbrev pub entries_from : List ℕ → List ℕ → Result Request Unreadable
entries_from board number = do
  n ← or_bad_line (board_number board)
  from ← or_bad_line (board_number number)
  Ok (ViewOf (HistoryFrom n from))

-- the number from which on is left out where the last entries are asked for
abbrev pub history : List (List ℕ) → Result Request Unreadable
history (board ∷ []) = last_entries board
history (board ∷ number ∷ []) = entries_from board number
history [] = Err BadLine
history (a ∷ b ∷ c ∷ more) = Err BadLine

abbrev pub history_of : List (List ℕ) → Result Request Unreadable
history_of arguments = do
  t ← two task arguments
  Ok (ViewOf (HistoryOf t.0 t.1))

-- ---- commands

abbrev pub adding : ℕ → List ℕ → List ℕ → Result Request Unreadable
adding at board body = do
  n ← or_bad_line (board_number board)
  incoming ← incoming_in body at
  Ok (Call (OnBoard n (Add incoming)))

abbrev pub acting : Action → List (List ℕ) → Result Request Unreadable
acting action arguments = do
  t ← two task arguments
  Ok (Call (OnBoard t.0 (OnTask t.1 action)))

abbrev pub acting_with : (List ℕ → Action) → List ℕ → List ℕ → List ℕ → Result Request Unreadable
acting_with action board uuid text = do
  t ← task board uuid
  Ok (Call (OnBoard t.0 (OnTask t.1 (action text))))

abbrev pub modifying : List ℕ → List ℕ → List ℕ → Result Request Unreadable
modifying board uuid body = do
  t ← task board uuid
  edits ← edits_in body
  Ok (Call (OnBoard t.0 (Modify t.1 edits)))

abbrev pub linking : List (List ℕ) → Result Request Unreadable
linking arguments = do
  l ← three link arguments
  Ok (Call (OnBoard l.0.0 (Depend l.0.1 l.1)))

abbrev pub unlinking : List (List ℕ) → Result Request Unreadable
unlinking arguments = do
  l ← three link arguments
  Ok (Call (OnBoard l.0.0 (Undepend l.0.1 l.1)))

abbrev pub sweeping : List ℕ → Result Request Unreadable
sweeping board = do
  n ← or_bad_line (board_number board)
  Ok (Call (OnBoard n Sweep))

abbrev pub set_ahead : List ℕ → List ℕ → Result Request Unreadable
set_ahead board number = do
  n ← or_bad_line (board_number board)
  ahead ← or_bad_line (ahead_number number)
  Ok (Call (OnBoard n (SetAhead ahead)))

abbrev pub retitling : List ℕ → List ℕ → Result Request Unreadable
retitling board title = do
  n ← or_bad_line (board_number board)
  heading ← or_bad_line (read_title title)
  Ok (Call (OnBoard n (Retitle heading)))

abbrev pub importing : ℕ → List ℕ → List ℕ → Result Request Unreadable
importing at board text = do
  n ← or_bad_line (board_number board)
  tasks ← import_in text at
  Ok (Call (OnBoard n (Import (Json tasks))))

-- each further argument is a line
abbrev pub importing_todo : ℕ → List (List ℕ) → Result Request Unreadable
importing_todo at [] = Err BadLine
importing_todo at (board ∷ lines) = do
  n ← or_bad_line (board_number board)
  tasks ← tasks_in lines at n
  Ok (Call (OnBoard n (Import (Lines tasks))))

abbrev pub new_person : List ℕ → List ℕ → Result Request Unreadable
new_person name key = do
  person ← or_bad_line (read_name name)
  secret ← or_bad_line (read_key key)
  Ok (Call (NewPerson person secret))

abbrev pub own_key : List ℕ → List ℕ → Result Request Unreadable
own_key old key = do
  before ← or_bad_line (read_key old)
  secret ← or_bad_line (read_key key)
  Ok (Call (OwnKey before secret))

abbrev pub set_key : List ℕ → List ℕ → Result Request Unreadable
set_key name word = do
  person ← or_bad_line (read_name name)
  key ← or_bad_line (key_or_none word)
  Ok (Call (SetKey person key))

abbrev pub new_board : List ℕ → Result Request Unreadable
new_board title = do
  heading ← or_bad_line (read_title title)
  Ok (Call (NewBoard heading))

abbrev pub set_role : List ℕ → List ℕ → List ℕ → Result Request Unreadable
set_role board name word = do
  n ← or_bad_line (board_number board)
  person ← or_bad_line (read_name name)
  role ← or_bad_line (role_named word)
  Ok (Call (SetRole n person role))

abbrev pub taking : List ℕ → Result Request Unreadable
taking board = do
  n ← or_bad_line (board_number board)
  Ok (Call (Take n))

-- ---- the words

unfoldable pub request_for : Word → List (List ℕ) → ℕ → Result Request Unreadable
request_for word.List arguments at = one listing arguments
request_for word.Export arguments at = one export arguments
request_for word.Todo arguments at = one todo arguments
request_for word.Task arguments at = showing arguments
request_for word.Add arguments at = two (adding at) arguments
request_for word.Import arguments at = two (importing at) arguments
request_for word.ImportTodo arguments at = importing_todo at arguments
request_for word.Done arguments at = acting Done arguments
request_for word.Delete arguments at = acting Delete arguments
request_for word.Reopen arguments at = acting Reopen arguments
request_for word.Start arguments at = acting Start arguments
request_for word.Stop arguments at = acting Stop arguments
request_for word.Annotate arguments at = three (acting_with Annotate) arguments
request_for word.Denotate arguments at = three (acting_with Denotate) arguments
request_for word.Modify arguments at = three modifying arguments
request_for word.Depend arguments at = linking arguments
request_for word.Undepend arguments at = unlinking arguments
request_for word.Sweep arguments at = one sweeping arguments
request_for word.Ahead arguments at = two set_ahead arguments
request_for word.Person arguments at = two new_person arguments
request_for word.Board arguments at = one new_board arguments
request_for word.Role arguments at = three set_role arguments
request_for word.OwnKey arguments at = two own_key arguments
request_for word.Key arguments at = two set_key arguments
request_for word.Take arguments at = one taking arguments
request_for word.Title arguments at = two retitling arguments
request_for word.People arguments at = one people arguments
request_for word.History arguments at = history arguments
request_for word.HistoryOf arguments at = history_of arguments
request_for word.Me arguments at = none (ViewOf Me) arguments

-- a word that is none makes a line that can't be read
unfoldable pub request_in : List ℕ → List (List ℕ) → ℕ → Result Request Unreadable
request_in name arguments at = do
  word ← or_bad_line (word_named name)
  request_for word arguments at
