-- What the head of a message says, before the message is taken.
use Rattle.std.specs.Prelude.{ℕ, ◌+◌, ◌-◌, ◌==◌, Bool, true, false, ◌&&◌, ◌||◌, List, [], codes, Option, Some, None, drop, find, if◌then◌else◌, length, position, take}
use Rattle.std.specs.Char.{is_ascii_whitespace}
use Rattle.std.specs.List.{fold, list_all, prefix_len, slice_split, suffix_len}
use Rattle.std.specs.Str.{bytes_eq, is_utf8, str_eq_ignore_ascii_case}
use Rattle.tb_event_loop.specs.declared.head.Line.{Line}
use Rattle.tb_event_loop.specs.declared.head.Line.TheVariants.{Full, Blank, Ended}
use Rattle.tb_event_loop.specs.declared.journal.TheConstants.{LONGEST_HEAD}

-- a line feed ends a line, and one behind a blank line ends the head
abbrev pub next_line : Line → ℕ → Line
next_line Ended byte = Ended
next_line Blank byte =
    if byte == 10 then Ended else if is_ascii_whitespace byte then Blank else Full
next_line Full byte = if byte == 10 then Blank else Full

abbrev pub is_ended : Line → Bool
is_ended Ended = true
is_ended line = false

-- a blank line came
abbrev pub has_whole_head : List ℕ → Bool
has_whole_head text = is_ended (fold next_line Full text)

abbrev pub trimmed_start : List ℕ → List ℕ
trimmed_start text = drop (prefix_len is_ascii_whitespace text) text

abbrev pub trimmed_end : List ℕ → List ℕ
trimmed_end text = take (length text - suffix_len is_ascii_whitespace text) text

-- without the blanks around it
abbrev pub trimmed : List ℕ → List ℕ
trimmed text = trimmed_end (trimmed_start text)

-- what is looked at: as much as a head may have, without blanks before it
abbrev pub begun : List ℕ → List ℕ
begun held = trimmed_start (take LONGEST_HEAD held)

abbrev pub is_blank : List ℕ → Bool
is_blank line = list_all is_ascii_whitespace line

abbrev pub before_at : Option ℕ → List ℕ → List ℕ
before_at None text = text
before_at (Some place) text = take place text

abbrev pub behind_at : Option ℕ → List ℕ → List ℕ
behind_at None text = []
behind_at (Some place) text = drop (place + 1) text

-- what stands before the first such sign, or all
abbrev pub up_to : ℕ → List ℕ → List ℕ
up_to sign text = before_at (position (λ byte. byte == sign) text) text

-- what stands behind the first such sign, or nothing
abbrev pub behind : ℕ → List ℕ → List ℕ
behind sign text = behind_at (position (λ byte. byte == sign) text) text

-- the second word of the first line
abbrev pub target_in : List ℕ → List ℕ
target_in text = up_to 32 (behind 32 (up_to 10 text))

-- its method is POST
abbrev pub is_call_in : List ℕ → Bool
is_call_in text = bytes_eq (up_to 32 (up_to 10 text)) (codes "POST")

-- a blank line, behind which no field is, or one of this name
abbrev pub ends_search : List ℕ → List ℕ → Bool
ends_search name line = is_blank line || str_eq_ignore_ascii_case (up_to 58 line) name

abbrev pub line_of : List ℕ → List ℕ → Option (List ℕ)
line_of name text = find (ends_search name) (slice_split (λ byte. byte == 10) text)

abbrev pub text_in : List ℕ → List ℕ
text_in value = if is_utf8 value then value else []

-- the word behind `/boards/` in the target
abbrev pub board_of : List ℕ → List ℕ
board_of path =
    if bytes_eq (up_to 47 path) (codes "boards") then text_in (up_to 47 (behind 47 path)) else []

abbrev pub board_in : List ℕ → List ℕ
board_in text = board_of (behind 47 (target_in text))

abbrev pub text_of_line : Option (List ℕ) → List ℕ
text_of_line None = []
text_of_line (Some line) = text_in (trimmed (behind 58 line))

-- what the first field of this name says, if it is text, and else nothing
abbrev pub text_of : List ℕ → List ℕ → List ℕ
text_of name text = text_of_line (line_of name text)

-- a call that makes a board: no other target leads there
abbrev pub makes_board : List ℕ → Bool
makes_board text = is_call_in text && bytes_eq (target_in text) (codes "/boards")
