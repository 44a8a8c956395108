-- The JSON value that bytes are. Bytes that are no text are no JSON (RFC 8259, section 8.1).
use Rattle.std.specs.Prelude.{ℕ, List, Option, None, if◌then◌else◌}
use Rattle.std.specs.Str.{is_utf8}
use Rattle.serde_json.specs.Data.{Data}
use Rattle.serde_json.specs.Read.{read}

abbrev pub json_of_bytes : List ℕ → Option Data
json_of_bytes bytes = if is_utf8 bytes then read bytes else None
