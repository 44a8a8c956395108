-- The words of a sending, and those that ask for help.
use Rattle.std.specs.Prelude.{◌==◌, ◌&&◌, ℕ, Bool, false, not, List, [], ◌∷◌, codes, drop, length, Option, Some, None, is_some, option_map, Result, Ok, Err, if◌then◌else◌}
use Rattle.std.specs.List.{list_all}
use Rattle.std.specs.Option.{unwrap_or}
use Rattle.std.specs.Path.{rsplit_once}
use Rattle.std.specs.Str.{bytes_eq}
use Rattle.tb_values.specs.Outcome.{◌>>=◌}
use Rattle.tb_board.specs.Names.{is_key_byte, read_name, read_key}
use Rattle.tb_task.specs.TaskId.{read_id}
use Rattle.tb_command_line.specs.declared.order.Order.{Order}
use Rattle.tb_command_line.specs.declared.order.Order.TheVariants as order
use Rattle.tb_command_line.specs.declared.order.Topic.{Topic}
use Rattle.tb_command_line.specs.declared.order.Topic.TheVariants as topic
use Rattle.tb_command_line.specs.declared.order.WordsFault.{WordsFault}
use Rattle.tb_command_line.specs.declared.order.WordsFault.TheVariants.{Bad}
use Rattle.tb_values.specs.Numerals.{number_to}
use Rattle.tb_command_line.specs.Order.{Text, port_in}
use Rattle.tb_command_line.specs.Outcome.{or_bad}

-- ---- `send [--id UUID] [--for SECONDS] ADDRESS:PORT MEMBER KEY WORD ARGUMENTS..`

-- a day
abbrev pub most_seconds : ℕ
most_seconds = 86400

-- from 1 on
-- Rule: --for is up to 86,400 seconds. Refused as Bad. Tried by words.
abbrev pub seconds_in : Text → Option ℕ
seconds_in text = number_to most_seconds text

-- the word behind an option, where that is in front of the words
abbrev pub option_value : Text → List Text → Option Text
option_value name (first ∷ value ∷ rest) = if bytes_eq first name then Some value else None
option_value name (first ∷ []) = None
option_value name [] = None

abbrev pub value_read : {A : Type 0} → (Text → Option A) → Option Text
    → Result (Option A) WordsFault
value_read read None = Ok None
value_read read (Some value) = or_bad (option_map Some (read value))

-- what the word behind an option reads as
abbrev pub option_in : {A : Type 0} → Text → (Text → Option A) → List Text
    → Result (Option A) WordsFault
option_in name read words = value_read read (option_value name words)

-- the words behind an option, where it was in front of them
abbrev pub behind : {A : Type 0} → Option A → List Text → List Text
behind None words = words
behind (Some value) words = drop 2 words

-- a key, or `-` where it is kept elsewhere
abbrev pub key_in : Text → Option (Option (List ℕ))
key_in text = if bytes_eq text (codes "-") then Some None else option_map Some (read_key text)

-- an address of a byte at least, and a port from 1 to 65535
abbrev pub are_address_and_port : Text → Text → Bool
are_address_and_port address port = not (length address == 0) && is_some (port_in port)

-- so is what stands before the last colon and behind it
abbrev pub has_address_and_port : Option (Text × Text) → Bool
has_address_and_port None = false
has_address_and_port (Some parts) = are_address_and_port parts.0 parts.1

-- visible characters of ASCII alone, split at the last colon
unfoldable pub is_server : Text → Bool
is_server text = list_all is_key_byte text && has_address_and_port (rsplit_once 58 text)

abbrev pub server_in : Text → Option Text
server_in text = if is_server text then Some text else None

abbrev pub sent_with : Option ℕ → Option ℕ → List Text → Result Order WordsFault
sent_with id seconds (server ∷ member ∷ key ∷ word ∷ arguments) = do
  s ← or_bad (server_in server)
  n ← or_bad (read_name member)
  k ← or_bad (key_in key)
  Ok (order.Send (record {
    server = s;
    member = n;
    key = k;
    id = id;
    seconds = unwrap_or seconds 60;
    words = word ∷ arguments;
  }))
sent_with id seconds [] = Err Bad
sent_with id seconds (server ∷ []) = Err Bad
sent_with id seconds (server ∷ member ∷ []) = Err Bad
sent_with id seconds (server ∷ member ∷ key ∷ []) = Err Bad

-- the order that the words after `send` are, whatever they begin with
unfoldable pub send_of : List Text → Result Order WordsFault
send_of words = do
  id ← option_in (codes "--id") read_id words
  seconds ← option_in (codes "--for") seconds_in (behind id words)
  sent_with id seconds (behind seconds (behind id words))

-- ---- `my [WORD ARGUMENTS..]`

abbrev pub my_of : List Text → Result Order WordsFault
my_of words = Ok (order.My (record { words = words }))

-- ---- `--help`, `ORDER --help` and `--version`

unfoldable pub topic_named : Text → Option Topic
topic_named name =
    if bytes_eq name (codes "init") then Some topic.Init
    else if bytes_eq name (codes "serve") then Some topic.Serve
    else if bytes_eq name (codes "run") then Some topic.Run
    else if bytes_eq name (codes "import") then Some topic.Import
    else if bytes_eq name (codes "export") then Some topic.Export
    else if bytes_eq name (codes "list") then Some topic.List
    else if bytes_eq name (codes "todo") then Some topic.Todo
    else if bytes_eq name (codes "check") then Some topic.Check
    else if bytes_eq name (codes "key") then Some topic.Key
    else if bytes_eq name (codes "send") then Some topic.Send
    else if bytes_eq name (codes "my") then Some topic.My
    else None

abbrev pub told_alone : Text → Option Order
told_alone word =
    if bytes_eq word (codes "--help") then Some (order.Help topic.Program)
    else if bytes_eq word (codes "--version") then Some order.Version
    else None

abbrev pub told_of_order : Text → Text → Option Order
told_of_order name word = if bytes_eq word (codes "--help")
    then option_map order.Help (topic_named name) else None

-- what is told of the program itself, where the words ask for that
unfoldable pub told_of : List Text → Option Order
told_of (word ∷ []) = told_alone word
told_of (name ∷ word ∷ []) = told_of_order name word
told_of [] = None
told_of (name ∷ word ∷ other ∷ rest) = None
