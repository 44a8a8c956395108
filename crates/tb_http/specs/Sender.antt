-- What the fields of a request say: who sends it, by which key, and the identifier of its call.
use Rattle.std.specs.Prelude.{ℕ, List, find, codes, Option, Some, None, option_and_then, if◌then◌else◌}
use Rattle.std.specs.Str.{is_utf8}
use Rattle.tb_task.specs.TaskId.{read_id}
use Rattle.tb_http.specs.declared.message.Field.{Field}
use Rattle.tb_http.specs.declared.message.Message.{Message}
use Rattle.tb_http.specs.Message.{is_named}

-- a field's value, if it is text
abbrev pub text_in : Field → Option (List ℕ)
text_in field = if is_utf8 field.value then Some field.value else None

-- the text of the first field of this name
abbrev pub text_of : List ℕ → Message → Option (List ℕ)
text_of name message = option_and_then text_in (find (is_named name) message.fields)

abbrev pub member_of : Message → Option (List ℕ)
member_of message = text_of (codes "x-member") message

abbrev pub key_of : Message → Option (List ℕ)
key_of message = text_of (codes "x-key") message

-- Rule: a POST has an identifier. Refused as NoId. Tried by sender_fields.
abbrev pub request_id_of : Message → Option ℕ
request_id_of message = option_and_then read_id (text_of (codes "x-request-id") message)
