-- The lines that tell of messages. No word of a message has a byte in them but plain signs.
use Rattle.std.specs.Prelude.{ℕ, ◌+◌, ◌-◌, ◌/◌, ◌%◌, ◌==◌, Bool, not, ◌&&◌, nat_le, nat_lt, if◌then◌else◌, List, [], ◌∷◌, ◌++◌, codes, decimal, Option, Some, None, take}
use Rattle.std.specs.List.{flat_map}
use Rattle.std.specs.Option.{option_copied}
use Rattle.tb_event_loop.specs.declared.logging.FailedMessage.{FailedMessage}
use Rattle.tb_event_loop.specs.declared.logging.LogEntry.{LogEntry}
use Rattle.tb_event_loop.specs.declared.logging.TheConstants.{LONGEST_WORD}
use Rattle.tb_task.specs.MomentText.{moment_text}

-- from ! to ~, but for the sign that begins what is written out
abbrev pub is_plain : ℕ → Bool
is_plain byte = nat_le 33 byte && nat_le byte 126 && not (byte == 92)

abbrev pub hex_digit : ℕ → ℕ
hex_digit number = if nat_lt number 10 then 48 + number else 97 + (number - 10)

-- a plain sign as it is, and another byte as \x and two digits
abbrev pub escaped_byte : ℕ → List ℕ
escaped_byte byte = if is_plain byte then byte ∷ []
    else 92 ∷ 120 ∷ hex_digit (byte / 16) ∷ hex_digit (byte % 16) ∷ []

-- Rule: a logged text has visible ASCII alone. Tried by serve.sh.
abbrev pub written_out : List ℕ → List ℕ
written_out bytes = flat_map escaped_byte bytes

-- Rule: of each logged word the first 200 bytes are told. Tried by serve.sh.
abbrev pub escaped : List ℕ → List ℕ
escaped bytes = written_out (take LONGEST_WORD bytes)

-- how many lines before this one are missing, on a line of its own
abbrev pub missed_text : ℕ → List ℕ
missed_text missed =
    if missed == 0 then []
    else codes "\ntaskboard: lines of the log that couldn't be written:" ++ codes " "
    ++ decimal missed ++ codes "\n"

abbrev pub member_text : Option (List ℕ) → List ℕ
member_text None = codes " -"
member_text (Some name) = codes " " ++ escaped name

-- a line of the log: how many are missing before it, the moment, the member, the method, the target, the status, the bytes and the milliseconds
abbrev pub log_text : LogEntry → List ℕ
log_text entry =
    missed_text entry.missed ++ moment_text entry.moment ++ member_text (option_copied entry.member) ++ codes " "
    ++ escaped entry.method.now ++ codes " "
    ++ escaped entry.target.now ++ codes " " ++ escaped entry.status.now ++ codes " "
    ++ decimal entry.bytes ++ codes " "
    ++ decimal entry.millis ++ codes "\n"

-- a word of a message, or a sign that it isn't known
abbrev pub known_text : List ℕ → List ℕ
known_text [] = codes " -"
known_text (byte ∷ bytes) = codes " " ++ escaped (byte ∷ bytes)

abbrev pub known_moment : Option ℕ → List ℕ
known_moment None = codes " -"
known_moment (Some moment) = codes " " ++ moment_text moment

-- the line that tells on which message the store failed
abbrev pub failure_text : FailedMessage → List ℕ
failure_text failed =
    codes "taskboard: the file failed while" ++ known_text failed.method.now
    ++ known_text failed.target.now ++ codes " of"
    ++ known_text failed.member.now ++ codes " was handled at" ++ known_moment failed.moment
    ++ codes "; its outcome is known when the file is opened again\n"
