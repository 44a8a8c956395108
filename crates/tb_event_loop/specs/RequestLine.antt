-- What the log tells of a message.
use Rattle.std.specs.Prelude.{ℕ, List, codes, Option, Some, None, if◌then◌else◌}
use Rattle.tb_event_loop.specs.Head as head

-- the first word of the first line
abbrev pub method_of : List ℕ → List ℕ
method_of text = head.trimmed (head.up_to 32 (head.up_to 10 text))

abbrev pub method_in : List ℕ → List ℕ
method_in text = method_of (head.trimmed_start text)

-- the second
abbrev pub target_in : List ℕ → List ℕ
target_in text = head.trimmed (head.target_in (head.trimmed_start text))

abbrev pub member_of : List ℕ → Option (List ℕ)
member_of line = if head.is_blank line then None else Some (head.trimmed (head.behind 58 line))

abbrev pub member_of_line : Option (List ℕ) → Option (List ℕ)
member_of_line None = None
member_of_line (Some line) = member_of line

-- what the first field `x-member` says, before a blank line
abbrev pub member_among : List ℕ → Option (List ℕ)
member_among fields = member_of_line (head.line_of (codes "x-member") fields)

-- of the lines after the first
abbrev pub member_in : List ℕ → Option (List ℕ)
member_in text = member_among (head.behind 10 (head.trimmed_start text))
