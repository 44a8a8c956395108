-- The forms of the command line, and the order that each is.
use Rattle.std.specs.Prelude.{◌==◌, ℕ, Bool, true, false, not, List, [], ◌∷◌, ◌++◌, codes, Option, Some, None, option_map, Result, Ok, if◌then◌else◌}
use Rattle.std.specs.Str.{bytes_eq}
use Rattle.tb_values.specs.Outcome.{◌>>=◌}
use Rattle.tb_board.specs.Names.{read_name, read_key}
use Rattle.tb_task.specs.TaskId.{read_id}
use Rattle.tb_command_line.specs.declared.order.Connections.{Connections}
use Rattle.tb_command_line.specs.declared.order.Connections.TheVariants as connections
use Rattle.tb_command_line.specs.declared.order.ImportKind.{ImportKind}
use Rattle.tb_command_line.specs.declared.order.ImportKind.TheVariants as kind
use Rattle.tb_command_line.specs.declared.order.ImportOrder.{ImportOrder}
use Rattle.tb_command_line.specs.declared.order.Order.{Order}
use Rattle.tb_command_line.specs.declared.order.Order.TheVariants as order
use Rattle.tb_command_line.specs.declared.order.ViewKind.{ViewKind}
use Rattle.tb_command_line.specs.declared.order.ViewKind.TheVariants as view
use Rattle.tb_command_line.specs.declared.order.WordsFault.{WordsFault}
use Rattle.tb_values.specs.Numerals.{number_to}
use Rattle.tb_command_line.specs.Outcome.{or_bad, or_no_key}

abbrev pub Text : Type 0
Text = List ℕ

-- the forms of the words after the program's name, with what stands in them
pub data Request : Type 0 where
  -- FILE, NAME and KEY
  Init : Text → Text → Text → Request
  -- FILE, the port, the number of connections where it is given, and whether `--forever` and `--log` are
  Serve : Text → Text → Option Text → Bool → Bool → Request
  Run : Request
  -- FILE, MEMBER, KEY, ID, BOARD and KIND, and whether `--all` is given
  Import : Text → Text → Text → Text → Text → Text → Bool → Request
  -- FILE, MEMBER, KEY and BOARD
  View : ViewKind → Text → Text → Text → Text → Request
  Check : Text → Request
  -- FILE, NAME and, where it is given, a word for the key
  Key : Text → Text → Option Text → Request

-- the word that asks for a view
abbrev pub word_of : ViewKind → Text
word_of view.Export = codes "export"
word_of view.Listing = codes "list"
word_of view.Todo = codes "todo"

-- the words, without the options
abbrev pub texts_of : Request → List Text
texts_of (Init file name key) = file ∷ name ∷ key ∷ []
texts_of (Serve file port None is_forever log) = file ∷ port ∷ []
texts_of (Serve file port (Some count) is_forever log) = file ∷ port ∷ count ∷ []
texts_of Run = []
texts_of (Import file member key id board kind is_all) =
    file ∷ member ∷ key ∷ id ∷ board ∷ kind ∷ []
texts_of (View kind file member key board) = file ∷ member ∷ key ∷ board ∷ []
texts_of (Check file) = file ∷ []
texts_of (Key file name None) = file ∷ name ∷ []
texts_of (Key file name (Some word)) = file ∷ name ∷ word ∷ []

-- an option and its value, where it is given
abbrev pub option_words : Text → Option Text → List Text
option_words name None = []
option_words name (Some value) = name ∷ value ∷ []

-- a flag, where it is given
abbrev pub flag_words : Text → Bool → List Text
flag_words name true = name ∷ []
flag_words name false = []

abbrev pub words_of : Request → List Text
words_of (Init file name key) = codes "init" ∷ file ∷ name ∷ key ∷ []
words_of (Serve file port count is_forever log) =
    codes "serve" ∷ file ∷ codes "--port" ∷ port ∷ (option_words (codes "--connections") count
    ++ (flag_words (codes "--forever") is_forever ++ flag_words (codes "--log") log))
words_of Run = codes "run" ∷ []
words_of (Import file member key id board kind is_all) =
    codes "import" ∷ file ∷ member ∷ key ∷ id ∷ board ∷ kind ∷ flag_words (codes "--all") is_all
words_of (View kind file member key board) = word_of kind ∷ file ∷ member ∷ key ∷ board ∷ []
words_of (Check file) = codes "check" ∷ file ∷ []
words_of (Key file name None) = codes "key" ∷ file ∷ name ∷ []
words_of (Key file name (Some word)) = codes "key" ∷ file ∷ name ∷ word ∷ []

-- the word doesn't begin with a hyphen, or is one
abbrev pub is_plain : Text → Bool
is_plain [] = true
is_plain (b ∷ []) = true
is_plain (b ∷ c ∷ bs) = not (b == 45)

-- ---- the parts of an order

abbrev pub kind_in : Text → Option ImportKind
kind_in text = if bytes_eq text (codes "json") then Some kind.Json
    else if bytes_eq text (codes "todo") then Some kind.Todo
    else None

-- from 1 to 65535
-- Rule: a port is 1 to 65,535. Refused as Bad. Tried by words.
abbrev pub port_in : Text → Option ℕ
port_in text = number_to 65535 text

-- up to a number from 1 to 1000000, which is 1000 where none is given, or without end, but not both
-- Rule: --connections is 1 to 1,000,000. Refused as Bad. Tried by words.
abbrev pub connections_in : Option Text → Bool → Option Connections
connections_in None false = Some (connections.UpTo 1000)
connections_in None true = Some connections.Forever
connections_in (Some text) false = option_map connections.UpTo (number_to 1000000 text)
connections_in (Some text) true = None

-- from 1 to 4294967295
abbrev pub board_in : Text → Option ℕ
board_in text = number_to 4294967295 text

-- a key, where `-` is the one that is kept elsewhere
abbrev pub key_in : Option Text → Text → Result Text WordsFault
key_in kept text = if bytes_eq text (codes "-") then or_no_key kept else or_bad (read_key text)

-- a new key is read where the word for it is `-`, and made where there is none
abbrev pub is_read_in : Option Text → Option Bool
is_read_in None = Some false
is_read_in (Some word) = if bytes_eq word (codes "-") then Some true else None

-- ---- the order, with the key that is kept elsewhere

abbrev pub init_of : Option Text → Text → Text → Text → Result Order WordsFault
init_of kept file name key = do
  n ← or_bad (read_name name)
  k ← key_in kept key
  Ok (order.Init (record { file = file; name = n; key = k }))

abbrev pub serve_of : Text → Text → Option Text → Bool → Bool → Result Order WordsFault
serve_of file port count is_forever log = do
  p ← or_bad (port_in port)
  n ← or_bad (connections_in count is_forever)
  Ok (order.Serve (record {
    file = file;
    port = p;
    connections = n;
    page = None;
    growth = 4;
    burst = 256;
    log = log;
  }))

-- an import by one call, or in as many parts as it takes
abbrev pub importing : Bool → ImportOrder → Order
importing true asked = order.ImportAll asked
importing false asked = order.Import asked

abbrev pub import_of : Option Text → Text → Text → Text → Text → Text → Text → Bool
    → Result Order WordsFault
import_of kept file member key id board kind is_all = do
  n ← or_bad (read_name member)
  k ← key_in kept key
  i ← or_bad (read_id id)
  b ← or_bad (board_in board)
  t ← or_bad (kind_in kind)
  Ok (importing is_all (record { file = file; member = n; key = k; id = i; board = b; kind = t }))

abbrev pub view_of : Option Text → ViewKind → Text → Text → Text → Text → Result Order WordsFault
view_of kept kind file member key board = do
  n ← or_bad (read_name member)
  k ← key_in kept key
  b ← or_bad (board_in board)
  Ok (order.View (record { kind = kind; file = file; member = n; key = k; board = b }))

abbrev pub key_order_of : Text → Text → Option Text → Result Order WordsFault
key_order_of file name word = do
  n ← or_bad (read_name name)
  r ← or_bad (is_read_in word)
  Ok (order.Key (record { file = file; name = n; is_read = r }))

-- the order that a request is, or Bad where a part of it isn't in its form, and NoKey where no key is kept that it asks for
abbrev pub order_of : Option Text → Request → Result Order WordsFault
order_of kept (Init file name key) = init_of kept file name key
order_of kept (Serve file port count is_forever log) = serve_of file port count is_forever log
order_of kept Run = Ok order.Run
order_of kept (Import file member key id board kind is_all) =
    import_of kept file member key id board kind is_all
order_of kept (View kind file member key board) = view_of kept kind file member key board
order_of kept (Check file) = Ok (order.Check file)
order_of kept (Key file name word) = key_order_of file name word
