-- How a text is cut into parts, each of which one import takes.
use Rattle.std.specs.Prelude.{ℕ, ◌+◌, ◌==◌, ◌&&◌, ◌||◌, Bool, false, List, [], ◌∷◌, ◌++◌, length, nat_le, nat_lt, Option, Some, None, if◌then◌else◌}
use Rattle.std.specs.List.{slice_split}
use Rattle.tb_command_line.specs.declared.order.ImportKind.{ImportKind}
use Rattle.tb_command_line.specs.declared.order.ImportKind.TheVariants as kind
use Rattle.tb_task.specs.Limits.{longest_body, most_items}

-- the parts that are full, what the next one has so far, how many lines that is, and whether a line was longer than a part
pub record Cut : Type 0 where
  pub full : List (List ℕ)
  pub begun : List ℕ
  pub lines : ℕ
  pub is_long : Bool

abbrev pub uncut : Cut
uncut = record { full = []; begun = []; lines = 0; is_long = false }

-- a part has at most 1,000 lines and 1,048,576 bytes, the end of each line among them
-- Rule: a part of an import is what one call takes. Tried by import.sh.
abbrev pub has_room : Cut → List ℕ → Bool
has_room cut line =
    nat_lt cut.lines most_items && nat_lt (length cut.begun + length line) longest_body

-- what has lines is a part
abbrev pub closed : Cut → Cut
closed cut = if cut.lines == 0 then cut
    else record cut { full = cut.full ++ cut.begun ∷ []; begun = []; lines = 0 }

-- the part that takes a line: the last one, where it has room
abbrev pub with_room : Cut → List ℕ → Cut
with_room cut line = if has_room cut line then cut else closed cut

abbrev pub added : Cut → List ℕ → Cut
added cut line = record {
  full = cut.full;
  begun = (cut.begun ++ line) ++ 10 ∷ [];
  lines = cut.lines + 1;
  is_long = cut.is_long || nat_le longest_body (length line);
}

-- an empty line is left out
abbrev pub put : Cut → List ℕ → Cut
put cut line = if length line == 0 then cut else added (with_room cut line) line

-- a list of objects, a line each, is read by lines without its brackets: a `[` that begins a line, and a `]` that is one
abbrev pub without_open : List ℕ → List ℕ
without_open [] = []
without_open (b ∷ bs) = if b == 91 then bs else b ∷ bs

abbrev pub without_close : List ℕ → List ℕ
without_close [] = []
without_close (b ∷ bs) = if (b == 93) && (length bs == 0) then [] else b ∷ bs

abbrev pub line_in : ImportKind → List ℕ → List ℕ
line_in kind.Json line = without_close (without_open line)
line_in kind.Todo line = line

abbrev pub cut_on : ImportKind → Cut → List (List ℕ) → Cut
cut_on kind cut [] = cut
cut_on kind cut (line ∷ lines) = cut_on kind (put cut (line_in kind line)) lines

abbrev pub lines_of : List ℕ → List (List ℕ)
lines_of text = slice_split (λ b. b == 10) text

-- the parts, unless a line is longer than one
abbrev pub parts_in : Cut → Option (List (List ℕ))
parts_in cut = if cut.is_long then None else Some (closed cut).full

-- a text that one call takes as it is
abbrev pub is_one : List ℕ → Bool
is_one text = nat_le (length text) longest_body && nat_le (length (lines_of text)) most_items

-- the parts of a text
abbrev pub parts_of : ImportKind → List ℕ → Option (List (List ℕ))
parts_of kind text = if is_one text then Some (text ∷ [])
    else parts_in (cut_on kind uncut (lines_of text))
