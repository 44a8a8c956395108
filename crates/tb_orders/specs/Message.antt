-- The message by which an import of the command line comes over HTTP.
use Rattle.std.specs.Prelude.{List, ℕ, [], ◌∷◌, ◌++◌, codes, decimal}
use Rattle.tb_task.specs.TaskId.{id_text}
use Rattle.tb_command_line.specs.declared.order.ImportKind.{ImportKind}
use Rattle.tb_command_line.specs.declared.order.ImportKind.TheVariants as kind
use Rattle.tb_command_line.specs.declared.order.ImportOrder.{ImportOrder}
use Rattle.tb_http.specs.declared.message.Field.{Field}
use Rattle.tb_http.specs.declared.message.Message.{Message}

abbrev pub route_of : ImportKind → List ℕ
route_of kind.Json = codes "/import"
route_of kind.Todo = codes "/import-todo"

-- `/boards/B/import` or `/boards/B/import-todo`
abbrev pub target_of : ImportOrder → List ℕ
target_of order = codes "/boards/" ++ (decimal order.board ++ route_of order.kind)

abbrev pub field : List ℕ → List ℕ → Field
field name value = record { name = name; value = value }

abbrev pub fields_under : ImportOrder → ℕ → List Field
fields_under order id = field (codes "x-member") order.member ∷ field (codes "x-key") order.key
    ∷ field (codes "x-request-id") (id_text id) ∷ []

-- the message by which the same import comes over HTTP under an identifier
abbrev pub message_under : ImportOrder → ℕ → List ℕ → Message
message_under order id text =
    record {
      method = codes "POST";
      target = target_of order;
      fields = fields_under order id;
      body = text;
    }

abbrev pub message_of : ImportOrder → List ℕ → Message
message_of order text = message_under order order.id text
