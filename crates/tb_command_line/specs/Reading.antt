-- The order that a subcommand is with its matches.
use Rattle.std.specs.Prelude.{Bool, false, List, codes, Option, Some, None, option_and_then, Result, Ok, Err, if◌then◌else◌}
use Rattle.std.specs.Option.{option_map_or}
use Rattle.std.specs.Str.{bytes_eq}
use Rattle.clap.specs.Walk.{Row, Text, first_of}
use Rattle.tb_values.specs.Outcome.{◌>>=◌}
use Rattle.tb_board.specs.Names.{read_name}
use Rattle.tb_task.specs.TaskId.{read_id}
use Rattle.tb_command_line.specs.declared.order.Connections.{Connections}
use Rattle.tb_command_line.specs.declared.order.Order.{Order}
use Rattle.tb_command_line.specs.declared.order.Order.TheVariants as order
use Rattle.tb_command_line.specs.declared.order.ViewKind.{ViewKind}
use Rattle.tb_command_line.specs.declared.order.ViewKind.TheVariants as view
use Rattle.tb_command_line.specs.declared.order.WordsFault.{WordsFault}
use Rattle.tb_command_line.specs.declared.order.WordsFault.TheVariants.{Bad}
use Rattle.tb_command_line.specs.Order.{board_in, connections_in, importing, is_read_in, key_in, kind_in, port_in}
use Rattle.tb_command_line.specs.Outcome.{or_bad}

-- what the value of an argument reads as
abbrev pub value_at : {A : Type 0} → (Text → Option A) → Text → List Row → Result A WordsFault
value_at read id rows = or_bad (option_and_then read (first_of id rows))

abbrev pub text_at : Text → List Row → Result Text WordsFault
text_at id rows = or_bad (first_of id rows)

abbrev pub key_at : Option Text → List Row → Result Text WordsFault
key_at kept rows = do
  text ← text_at (codes "key") rows
  key_in kept text

-- a flag's value is `true` where it is given
abbrev pub flag_at : Text → List Row → Bool
flag_at id rows = option_map_or (λ text. bytes_eq text (codes "true")) (first_of id rows) false

abbrev pub connections_at : List Row → Result Connections WordsFault
connections_at rows =
    or_bad (connections_in (first_of (codes "connections") rows) (flag_at (codes "forever") rows))

abbrev pub init_at : Option Text → List Row → Result Order WordsFault
init_at kept rows = do
  file ← text_at (codes "file") rows
  n ← value_at read_name (codes "name") rows
  k ← key_at kept rows
  Ok (order.Init (record { file = file; name = n; key = k }))

abbrev pub serve_at : List Row → Result Order WordsFault
serve_at rows = do
  file ← text_at (codes "file") rows
  p ← value_at port_in (codes "port") rows
  n ← connections_at rows
  Ok (order.Serve (record {
    file = file;
    port = p;
    connections = n;
    page = None;
    growth = 4;
    burst = 256;
    log = flag_at (codes "log") rows;
  }))

abbrev pub import_at : Option Text → List Row → Result Order WordsFault
import_at kept rows = do
  file ← text_at (codes "file") rows
  n ← value_at read_name (codes "member") rows
  k ← key_at kept rows
  i ← value_at read_id (codes "id") rows
  b ← value_at board_in (codes "board") rows
  t ← value_at kind_in (codes "kind") rows
  Ok (importing (flag_at (codes "all") rows)
      (record { file = file; member = n; key = k; id = i; board = b; kind = t }))

abbrev pub view_at : Option Text → ViewKind → List Row → Result Order WordsFault
view_at kept kind rows = do
  file ← text_at (codes "file") rows
  n ← value_at read_name (codes "member") rows
  k ← key_at kept rows
  b ← value_at board_in (codes "board") rows
  Ok (order.View (record { kind = kind; file = file; member = n; key = k; board = b }))

abbrev pub check_at : List Row → Result Order WordsFault
check_at rows = do
  file ← text_at (codes "file") rows
  Ok (order.Check file)

abbrev pub key_order_at : List Row → Result Order WordsFault
key_order_at rows = do
  file ← text_at (codes "file") rows
  n ← value_at read_name (codes "name") rows
  r ← or_bad (is_read_in (first_of (codes "key") rows))
  Ok (order.Key (record { file = file; name = n; is_read = r }))

unfoldable pub named_at : Option Text → Text → List Row → Result Order WordsFault
named_at kept name rows =
    if bytes_eq name (codes "init") then init_at kept rows
    else if bytes_eq name (codes "serve") then serve_at rows
    else if bytes_eq name (codes "run") then Ok order.Run
    else if bytes_eq name (codes "import") then import_at kept rows
    else if bytes_eq name (codes "export") then view_at kept view.Export rows
    else if bytes_eq name (codes "list") then view_at kept view.Listing rows
    else if bytes_eq name (codes "todo") then view_at kept view.Todo rows
    else if bytes_eq name (codes "check") then check_at rows
    else if bytes_eq name (codes "key") then key_order_at rows
    else Err Bad

abbrev pub order_at : Option Text → Option (Text × List Row) → Result Order WordsFault
order_at kept (Some found) = named_at kept found.0 found.1
order_at kept None = Err Bad
