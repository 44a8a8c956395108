-- What a message asks for.
use Rattle.std.specs.Prelude.{ℕ, List, Option, Some, None, Result, Ok, Err}
use Rattle.tb_values.specs.Outcome.{◌>>=◌}
use Rattle.tb_board.specs.Names.{read_key, read_name}
use Rattle.tb_core.specs.declared.command.Command.{Command}
use Rattle.tb_asking.specs.Bodies.{text_in}
use Rattle.tb_calls.specs.declared.view.View.{View}
use Rattle.tb_calls.specs.declared.view.View.TheVariants as view
use Rattle.tb_http.specs.declared.kind.BoardView.{BoardView}
use Rattle.tb_http.specs.declared.kind.BoardView.TheVariants.{List as ListTasks, Export, Todo, People, History}
use Rattle.tb_http.specs.declared.message.Message.{Message}
use Rattle.tb_http.specs.declared.resource.CallTarget.{CallTarget}
use Rattle.tb_http.specs.declared.resource.Resource.{Resource}
use Rattle.tb_http.specs.declared.resource.Resource.TheVariants as resource
use Rattle.tb_http.specs.declared.resource.RouteFault.{RouteFault}
use Rattle.tb_http.specs.Message.{content_of}
use Rattle.tb_http.specs.Resource.{resource_asked}
use Rattle.tb_http.specs.Sender.{key_of, member_of, request_id_of}
use Rattle.tb_asking.specs.declared.asked.Asked.{Asked}
use Rattle.tb_asking.specs.declared.asked.Asked.TheVariants as asked
use Rattle.tb_asking.specs.declared.asked.Sender.{Sender}
use Rattle.tb_asking.specs.declared.rejection.Rejection.{Rejection}
use Rattle.tb_asking.specs.declared.rejection.Rejection.TheVariants.{Route, NoId}
use Rattle.tb_asking.specs.Command.{command_in}
use Rattle.tb_asking.specs.Rejection.{or_rejected}

-- ---- who sends it

abbrev pub name_in : Option (List ℕ) → Option (List ℕ)
name_in None = None
name_in (Some text) = read_name text

abbrev pub key_in : Option (List ℕ) → Option (List ℕ)
key_in None = None
key_in (Some text) = read_key text

abbrev pub sender_from : Option (List ℕ) → Option (List ℕ) → Option Sender
sender_from None key = None
sender_from (Some name) None = None
sender_from (Some name) (Some key) = Some (record { name = name; key = key })

-- who sends a message, if it says so in a readable way
abbrev pub sender_of : Message → Option Sender
sender_of message = sender_from (name_in (member_of message)) (key_in (key_of message))

-- ---- what is asked

abbrev pub view_from : View → Option Sender → Asked
view_from view None = asked.Unknown
view_from view (Some sender) = asked.View sender view

abbrev pub call_from : Message → ℕ → ℕ → Command → Option Sender → Asked
call_from message id at command None = asked.Unknown
call_from message id at command (Some sender) = asked.Call (record {
  member = sender.name;
  key = sender.key;
  id = id;
  moment = at;
  content = content_of message;
  command = command;
})

abbrev pub board_view : ℕ → BoardView → View
board_view board ListTasks = view.Listing board
board_view board Export = view.Export board
board_view board Todo = view.Todo board
board_view board People = view.People board
board_view board History = view.History board

-- a call has an identifier, then a body of what it is made on
abbrev pub asked_under : Option ℕ → CallTarget → Message → ℕ → Result Asked Rejection
asked_under None target message at = Err NoId
asked_under (Some id) target message at = do
  command ← or_rejected (command_in target (text_in message.body) at)
  Ok (call_from message id at command (sender_of message))

abbrev pub asked_by : CallTarget → Message → ℕ → Result Asked Rejection
asked_by target message at = asked_under (request_id_of message) target message at

abbrev pub asked_at : Resource → Message → ℕ → Result Asked Rejection
asked_at resource.Me message at = Ok (view_from view.Me (sender_of message))
asked_at (resource.Board board asked) message at =
    Ok (view_from (board_view board asked) (sender_of message))
asked_at (resource.Task board id) message at =
    Ok (view_from (view.One board id) (sender_of message))
asked_at (resource.HistoryFrom board number) message at =
    Ok (view_from (view.HistoryFrom board number) (sender_of message))
asked_at (resource.TaskHistory board id) message at =
    Ok (view_from (view.HistoryOf board id) (sender_of message))
asked_at (resource.Call target) message at = asked_by target message at

-- what is asked on a route, if there is one
abbrev pub asked_on : Result Resource RouteFault → Message → ℕ → Result Asked Rejection
asked_on (Err fault) message at = Err (Route fault)
asked_on (Ok resource) message at = asked_at resource message at

-- what a message that came at a moment asks for: a path without a route or of another method comes first, then a call
-- without an identifier, then its body, and who sends it last
unfoldable pub asked_of : Message → ℕ → Result Asked Rejection
asked_of message at = asked_on (resource_asked message.method message.target) message at
