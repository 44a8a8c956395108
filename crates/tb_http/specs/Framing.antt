-- How long a message's body is, by its head (RFC 9112, sections 3.2 and 6).
use Rattle.std.specs.Prelude.{ℕ, ◌==◌, nat_lt, Bool, not, ◌&&◌, ◌||◌, if◌then◌else◌, List, length, find, codes, Option, Some, None, Result, Ok, Err}
use Rattle.std.specs.List.{list_all, list_any}
use Rattle.std.specs.Str.{bytes_eq}
use Rattle.std.specs.Str.Parse.{digits_value}
use Rattle.tb_http.specs.declared.fault.WireFault.{WireFault}
use Rattle.tb_http.specs.declared.fault.WireFault.TheVariants.{BadHead, HeadTooLong, Coding, NoLength, BodyTooLong}
use Rattle.tb_http.specs.declared.message.Field.{Field}
use Rattle.tb_http.specs.declared.message.Head.{Head}
use Rattle.tb_http.specs.Numerals.{is_number, same_number}
use Rattle.tb_http.specs.Message.{is_named, count_named}
use Rattle.tb_task.specs.Limits.{longest_body}

-- the most fields, and the longest body
-- Rule: a head has 64 fields at most. Refused as HeadTooLong. Tried by hostile_b.
abbrev pub field_limit : ℕ
field_limit = 64

abbrev pub body_limit : ℕ
body_limit = longest_body

-- a Content-Length line, if it is one, has the number of the first
-- Rule: two Content-Lengths say the same number. Refused as BadHead. Tried by lengths.
unfoldable pub agrees : List ℕ → Field → Bool
agrees first line =
    not (is_named (codes "content-length") line)
    || (is_number line.value && same_number first line.value)

-- a Content-Length line of more than 18 digits
unfoldable pub is_long : Field → Bool
is_long line = is_named (codes "content-length") line && nat_lt 18 (length line.value)

-- the length that the Content-Length lines give, which is one number
unfoldable pub length_of : List ℕ → List Field → Result ℕ WireFault
length_of first fields =
    if not (is_number first && list_all (agrees first) fields) then Err BadHead
    else (if list_any is_long fields || nat_lt body_limit (digits_value 10 first)
    then Err BodyTooLong
    else Ok (digits_value 10 first))

-- the length by the first Content-Length line, if there is one: a POST has to have it
-- Rule: a POST says how long its body is. Refused as NoLength. Tried by no_length.
unfoldable pub declared_length : List ℕ → Option Field → List Field → Result ℕ WireFault
declared_length method None fields = if bytes_eq method (codes "POST") then Err NoLength else Ok 0
declared_length method (Some line) fields = length_of line.value fields

-- one host at most, and in version 1.1 at least one
-- Rule: HTTP/1.1 has one Host, HTTP/1.0 one at most. Refused as BadHead. Tried by hosts.
unfoldable pub has_bad_hosts : ℕ → ℕ → Bool
has_bad_hosts hosts minor = nat_lt 1 hosts || (hosts == 0 && minor == 1)

-- how many bytes of body follow a head, or why the head is refused
-- Rule: a message has no Transfer-Encoding. Refused as Coding. Tried by chunked_body.
unfoldable pub body_length : Head → Result ℕ WireFault
body_length head =
    if has_bad_hosts (count_named (codes "host") head.fields) head.minor then Err BadHead
    else (if nat_lt field_limit (length head.fields) then Err HeadTooLong
    else (if nat_lt 0 (count_named (codes "transfer-encoding") head.fields) then Err Coding
    else declared_length head.method
    (find (is_named (codes "content-length")) head.fields) head.fields))
