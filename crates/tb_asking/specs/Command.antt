-- The commands that the bodies of messages hold.
use Rattle.std.specs.Prelude.{ℕ, Bool, false, ◌||◌, ◌==◌, if◌then◌else◌, length, List, codes, Option, Some, None, Result, Ok, Err, option_map, unwrap_or}
use Rattle.std.specs.Str.{bytes_eq}
use Rattle.serde_json.specs.Data.{Data}
use Rattle.serde_json.specs.Read.{read}
use Rattle.tb_values.specs.Outcome.{◌>>=◌}
use Rattle.tb_board.specs.Ahead.{read_ahead}
use Rattle.tb_board.specs.Names.{read_name, read_key, read_title}
use Rattle.tb_board.specs.declared.world.Role.{Role}
use Rattle.tb_board.specs.declared.world.Role.TheVariants.{Owner, Member, Reader}
use Rattle.tb_core.specs.declared.action.Action.TheVariants as action
use Rattle.tb_core.specs.declared.command.BoardCommand.{BoardCommand}
use Rattle.tb_core.specs.declared.command.BoardCommand.TheVariants as board_command
use Rattle.tb_core.specs.declared.command.Command.{Command}
use Rattle.tb_core.specs.declared.command.Command.TheVariants as command
use Rattle.tb_core.specs.declared.command.Import.TheVariants as imported
use Rattle.tb_http.specs.Body.{has_members, person_in, own_key_in, key_in, title_in, role_in, ahead_in, description_in, link_in}
use Rattle.tb_http.specs.declared.kind.BoardCall.{BoardCall}
use Rattle.tb_http.specs.declared.kind.BoardCall.TheVariants as to_board
use Rattle.tb_http.specs.declared.kind.TaskCall.{TaskCall}
use Rattle.tb_http.specs.declared.kind.TaskCall.TheVariants as to_task
use Rattle.tb_http.specs.declared.resource.CallTarget.{CallTarget}
use Rattle.tb_http.specs.declared.resource.CallTarget.TheVariants as target
use Rattle.tb_asking.specs.declared.body_fault.BadBody.{BadBody}
use Rattle.tb_asking.specs.declared.body_fault.BadBody.TheVariants.{Whole}
use Rattle.tb_asking.specs.Bodies.{incoming_in, edits_in, import_in, todo_in}

-- what isn't there is a bad body
abbrev pub or_whole : {A : Type 0} → Option A → Result A BadBody
or_whole None = Err Whole
or_whole (Some x) = Ok x

-- the JSON that a body is
abbrev pub json_in : List ℕ → Result Data BadBody
json_in text = or_whole (read text)

-- ---- people, boards and roles

abbrev pub person_named : List ℕ → List ℕ → Result Command BadBody
person_named name key = do
  person ← or_whole (read_name name)
  secret ← or_whole (read_key key)
  Ok (command.NewPerson person secret)

abbrev pub new_person : List ℕ → Result Command BadBody
new_person text = do
  json ← json_in text
  body ← or_whole (person_in json)
  person_named body.0 body.1

abbrev pub new_board : List ℕ → Result Command BadBody
new_board text = do
  json ← json_in text
  title ← or_whole (title_in json)
  heading ← or_whole (read_title title)
  Ok (command.NewBoard heading)

abbrev pub own_key_named : List ℕ → List ℕ → Result Command BadBody
own_key_named old key = do
  before ← or_whole (read_key old)
  secret ← or_whole (read_key key)
  Ok (command.OwnKey before secret)

abbrev pub own_key : List ℕ → Result Command BadBody
own_key text = do
  json ← json_in text
  body ← or_whole (own_key_in json)
  own_key_named body.0 body.1

-- null takes the key
abbrev pub key_or_none : Option (List ℕ) → Result (Option (List ℕ)) BadBody
key_or_none None = Ok None
key_or_none (Some text) = do
  key ← or_whole (read_key text)
  Ok (Some key)

abbrev pub set_key : List ℕ → List ℕ → Result Command BadBody
set_key name text = do
  json ← json_in text
  body ← or_whole (key_in json)
  key ← key_or_none body
  Ok (command.SetKey name key)

-- a role's word is one of the three
abbrev pub role_named : List ℕ → Role
role_named word =
    if bytes_eq word (codes "owner") then Owner
    else if bytes_eq word (codes "member") then Member
    else Reader

abbrev pub set_role : ℕ → List ℕ → Result Command BadBody
set_role board text = do
  json ← json_in text
  body ← or_whole (role_in json)
  member ← or_whole (read_name body.0)
  Ok (command.SetRole board member (option_map role_named body.1))

-- ---- a body that says no more than the path

-- it is empty, or an object without members
abbrev pub is_bare : List ℕ → Bool
is_bare text = (length text == 0) || unwrap_or (option_map (has_members 0) (read text)) false

abbrev pub bare : BoardCommand → List ℕ → Result BoardCommand BadBody
bare command text = if is_bare text then Ok command else Err Whole

abbrev pub take : ℕ → List ℕ → Result Command BadBody
take board text = if is_bare text then Ok (command.Take board) else Err Whole

-- ---- on a board

abbrev pub add : List ℕ → ℕ → Result BoardCommand BadBody
add text at = do
  incoming ← incoming_in text at
  Ok (board_command.Add incoming)

abbrev pub set_ahead : List ℕ → Result BoardCommand BadBody
set_ahead text = do
  json ← json_in text
  number ← or_whole (ahead_in json)
  ahead ← or_whole (read_ahead number)
  Ok (board_command.SetAhead ahead)

abbrev pub retitle : List ℕ → Result BoardCommand BadBody
retitle text = do
  json ← json_in text
  title ← or_whole (title_in json)
  heading ← or_whole (read_title title)
  Ok (board_command.Retitle heading)

abbrev pub import : List ℕ → ℕ → Result BoardCommand BadBody
import text at = do
  tasks ← import_in text at
  Ok (board_command.Import (imported.Json tasks))

abbrev pub import_todo : ℕ → List ℕ → ℕ → Result BoardCommand BadBody
import_todo board text at = do
  tasks ← todo_in text at board
  Ok (board_command.Import (imported.Todo tasks))

abbrev pub on_board : ℕ → BoardCall → List ℕ → ℕ → Result BoardCommand BadBody
on_board board to_board.Add text at = add text at
on_board board to_board.Sweep text at = bare board_command.Sweep text
on_board board to_board.Ahead text at = set_ahead text
on_board board to_board.Title text at = retitle text
on_board board to_board.Import text at = import text at
on_board board to_board.ImportTodo text at = import_todo board text at

-- ---- on a task

abbrev pub modify : ℕ → List ℕ → Result BoardCommand BadBody
modify id text = do
  edits ← edits_in text
  Ok (board_command.Modify id edits)

abbrev pub annotate : ℕ → List ℕ → Result BoardCommand BadBody
annotate id text = do
  json ← json_in text
  note ← or_whole (description_in json)
  Ok (board_command.OnTask id (action.Annotate note))

abbrev pub denotate : ℕ → List ℕ → Result BoardCommand BadBody
denotate id text = do
  json ← json_in text
  note ← or_whole (description_in json)
  Ok (board_command.OnTask id (action.Denotate note))

abbrev pub depend : ℕ → List ℕ → Result BoardCommand BadBody
depend id text = do
  json ← json_in text
  on ← or_whole (link_in json)
  Ok (board_command.Depend id on)

abbrev pub undepend : ℕ → List ℕ → Result BoardCommand BadBody
undepend id text = do
  json ← json_in text
  on ← or_whole (link_in json)
  Ok (board_command.Undepend id on)

abbrev pub on_task : ℕ → TaskCall → List ℕ → Result BoardCommand BadBody
on_task id to_task.Done text = bare (board_command.OnTask id action.Done) text
on_task id to_task.Delete text = bare (board_command.OnTask id action.Delete) text
on_task id to_task.Reopen text = bare (board_command.OnTask id action.Reopen) text
on_task id to_task.Start text = bare (board_command.OnTask id action.Start) text
on_task id to_task.Stop text = bare (board_command.OnTask id action.Stop) text
on_task id to_task.Modify text = modify id text
on_task id to_task.Annotate text = annotate id text
on_task id to_task.Denotate text = denotate id text
on_task id to_task.Depend text = depend id text
on_task id to_task.Undepend text = undepend id text

-- ---- what a call is made on

-- a command on the board of this number
abbrev pub of_board : ℕ → Result BoardCommand BadBody → Result Command BadBody
of_board board asked = do
  it ← asked
  Ok (command.OnBoard board it)

-- the command of a body that is this text, at a moment
unfoldable pub command_of : CallTarget → List ℕ → ℕ → Result Command BadBody
command_of target.People text at = new_person text
command_of target.OwnKey text at = own_key text
command_of (target.PersonKey name) text at = set_key name text
command_of target.Boards text at = new_board text
command_of (target.Roles board) text at = set_role board text
command_of (target.Take board) text at = take board text
command_of (target.Board board call) text at = of_board board (on_board board call text at)
command_of (target.Task board id call) text at = of_board board (on_task id call text)

-- the command of a body, which has to be text
abbrev pub command_in : CallTarget → Option (List ℕ) → ℕ → Result Command BadBody
command_in call None at = Err Whole
command_in call (Some text) at = command_of call text at
