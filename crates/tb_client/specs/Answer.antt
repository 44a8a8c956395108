-- The answer to a message, by the grammar of heads (RFC 9112, sections 4 and 6).
use Rattle.std.specs.Prelude.{◌≡◌, ◌≤◌, ℕ, ◌==◌, ◌||◌, Bool, List, [], ◌∷◌, ◌++◌, length, map, codes, Option, Some, None, option_and_then, if◌then◌else◌}
use Rattle.std.specs.Str.{bytes_eq, is_utf8, str_eq_ignore_ascii_case}
use Rattle.httparse.specs.Grammar.{ResponseHead, ReadsResponse, status_code}
use Rattle.httparse.specs.Spans.{name_and_value}
use Rattle.tb_values.specs.Numerals.{number_to}
use Rattle.tb_client.specs.declared.answer.Reply.{Reply}

-- the most fields of a head
abbrev pub field_limit : ℕ
field_limit = 64

-- the names and the values of the fields of a head
abbrev pub fields_of : ResponseHead → List (List ℕ × List ℕ)
fields_of tree = map name_and_value tree.fields

-- some values, and that of a field if it has this name, in any case of letters
abbrev pub with_field : List (List ℕ) → List ℕ → List ℕ × List ℕ → List (List ℕ)
with_field values name field = if str_eq_ignore_ascii_case field.0 name
    then values ++ field.1 ∷ [] else values

-- some values, and those of the fields of this name
abbrev pub with_named : List (List ℕ) → List ℕ → List (List ℕ × List ℕ) → List (List ℕ)
with_named values name [] = values
with_named values name (field ∷ fields) = with_named (with_field values name field) name fields

abbrev pub values_named : List ℕ → List (List ℕ × List ℕ) → List (List ℕ)
values_named name fields = with_named [] name fields

-- a value, if it is text
abbrev pub text_in : List ℕ → Option (List ℕ)
text_in value = if is_utf8 value then Some value else None

-- a number up to 4294967295, without a zero in front
abbrev pub size_text : List ℕ → Option ℕ
size_text text = if bytes_eq text (codes "0") then Some 0 else number_to 4294967295 text

abbrev pub size_in : List ℕ → Option ℕ
size_in value = option_and_then size_text (text_in value)

abbrev pub only_size : List (List ℕ) → Option ℕ
only_size (value ∷ []) = size_in value
only_size [] = None
only_size (one ∷ two ∷ more) = None

abbrev pub size_without : List (List ℕ) → List (List ℕ) → Option ℕ
size_without [] lengths = only_size lengths
size_without (coding ∷ more) lengths = None

-- how long the body is: one Content-Length says it, and there is no Transfer-Encoding
unfoldable pub size_of : List (List ℕ × List ℕ) → Option ℕ
size_of fields =
    size_without (values_named (codes "transfer-encoding") fields)
    (values_named (codes "content-length") fields)

-- the bytes are a whole answer, with nothing behind it
-- Rule: part of an answer isn't printed. Refused as NoAnswer. Tried by client.sh.
pub record IsWholeAnswer (bytes : List ℕ) (reply : Reply) : Type 0 where
  pub tree : ResponseHead
  pub reads : ReadsResponse bytes tree reply.body
  pub few : length tree.fields ≤ field_limit
  pub whole : size_of (fields_of tree) ≡ Some (length reply.body)
  pub status_is : reply.status ≡ status_code tree

-- the server couldn't take the message, or a proxy couldn't reach the server
-- Rule: send asks again after 500, 502, 503 and 504. Refused as NoAnswer. Tried by client.sh.
abbrev pub asks_again : ℕ → Bool
asks_again status = status == 500 || (status == 502 || (status == 503 || status == 504))
