-- After which messages a connection is closed (RFC 9112, section 9.3; RFC 9110, sections 5.6.1 and 7.6.1).
use Rattle.std.specs.Prelude.{ℕ, ◌==◌, Bool, ◌&&◌, ◌||◌, if◌then◌else◌, List, [], ◌∷◌, reverse, codes}
use Rattle.std.specs.List.{list_any, slice_split}
use Rattle.std.specs.Str.{str_eq_ignore_ascii_case}
use Rattle.tb_http.specs.declared.message.Field.{Field}
use Rattle.tb_http.specs.declared.message.Head.{Head}
use Rattle.tb_http.specs.Message.{is_named}

-- the most messages of a connection
-- Rule: a connection carries 1,000 messages at most. Tried by hostile_j.
abbrev pub message_limit : ℕ
message_limit = 1000

-- a space or a tab
abbrev pub is_blank : ℕ → Bool
is_blank byte = byte == 32 || byte == 9

-- the text without the blanks at its start, at its end, and at both
abbrev pub without_start : List ℕ → List ℕ
without_start [] = []
without_start (byte ∷ bytes) = if is_blank byte then without_start bytes else byte ∷ bytes

abbrev pub without_end : List ℕ → List ℕ
without_end text = reverse (without_start (reverse text))

abbrev pub without_ends : List ℕ → List ℕ
without_ends text = without_end (without_start text)

-- the word `close`, in any case of letters
unfoldable pub is_close : List ℕ → Bool
is_close option = str_eq_ignore_ascii_case (without_ends option) (codes "close")

-- a Connection line that has the word among its options, which are separated by commas
unfoldable pub names_close : Field → Bool
names_close line =
    is_named (codes "connection") line
    && list_any is_close (slice_split (λ byte. byte == 44) line.value)

-- the sender closes the connection after this message
-- Rule: HTTP/1.0 and Connection: close end a connection. Tried by closing.
unfoldable pub asks_to_close : Head → Bool
asks_to_close head = head.minor == 0 || list_any names_close head.fields
