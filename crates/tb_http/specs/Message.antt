-- Heads, messages and their fields.
use Rattle.std.specs.Prelude.{ℕ, List, ◌∷◌, ◌++◌, map, Bool, not, count_by, codes}
use Rattle.std.specs.Str.{bytes_eq, str_eq_ignore_ascii_case}
use Rattle.httparse.specs.Grammar.{RequestHead}
use Rattle.httparse.specs.Spans.{name_and_value}
use Rattle.tb_http.specs.declared.message.Field.{Field}
use Rattle.tb_http.specs.declared.message.Head.{Head}
use Rattle.tb_http.specs.declared.message.Message.{Message}

-- the field of a name and of a value without the white space around it
abbrev pub field_from : List ℕ × List ℕ → Field
field_from pair = record { name = pair.0; value = pair.1 }

-- what the grammar's tree of a head says
abbrev pub head_from : RequestHead → Head
head_from tree = record {
  method = tree.method;
  target = tree.target;
  minor = tree.minor;
  fields = map field_from (map name_and_value tree.fields);
}

-- the message of a head with a body behind it
abbrev pub message_from : Head → List ℕ → Message
message_from head body =
    record { method = head.method; target = head.target; fields = head.fields; body = body }

-- what a call is known by, beside its identifier: its method, a space, its target, a line feed and its body
-- Rule: of a resent message method, path and body are compared. Tried by identifier_used_again.
abbrev pub content_of : Message → List ℕ
content_of message = message.method ++ 32 ∷ message.target ++ 10 ∷ message.body

-- the answer to the message is sent with its body
-- Rule: HEAD is answered without a body. Tried by page.
abbrev pub takes_body : Message → Bool
takes_body message = not (bytes_eq message.method (codes "HEAD"))

-- the field has this name, in any case of letters
abbrev pub is_named : List ℕ → Field → Bool
is_named name field = str_eq_ignore_ascii_case field.name name

-- how many fields have this name
abbrev pub count_named : List ℕ → List Field → ℕ
count_named name fields = count_by (is_named name) fields
