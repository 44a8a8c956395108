-- Lines of columns that are as wide as what stands in them, for a terminal or a pipe. Widths are those of a terminal's columns.
use Rattle.std.specs.Prelude.{ℕ, ◌-◌, ◌==◌, Bool, true, false, max, nat_le, List, [], ◌∷◌, ◌++◌, codes, replicate, Option, Some, None, unwrap_or, if◌then◌else◌}
use Rattle.std.specs.Str.{chars, encode_utf8_all}
use Rattle.tb_finding.specs.Board.{Text}
use Rattle.tb_finding.specs.declared.table.Cells.{Cells}
use Rattle.tb_finding.specs.declared.table.Style.{Style}
use Rattle.tb_finding.specs.declared.table.TheConstants.{BOLD, PLAIN, RED}
use Rattle.tb_finding.specs.declared.table.Widths.{Widths}
use Rattle.unicode_width.specs.Width.{char_width, str_width}

abbrev pub width : Text → ℕ
width text = str_width false (chars text)

-- ---- a text cut to so many columns

abbrev pub columns_of : ℕ → ℕ
columns_of c = unwrap_or (char_width false c) 0

-- the characters at the front that have room
abbrev pub taken : ℕ → List ℕ → List ℕ
taken room [] = []
taken room (c ∷ cs) =
    if nat_le (columns_of c) room then c ∷ taken (room - columns_of c) cs else []

-- three dots in one column
abbrev pub dots : Text
dots = 226 ∷ 128 ∷ 166 ∷ []

-- the whole text where it has room, or its front and dots
abbrev pub cut : ℕ → Text → Text
cut room text = if nat_le (width text) room then text
    else encode_utf8_all (taken (room - 1) (chars text)) ++ dots

-- without a room it is whole
abbrev pub fitted : Option ℕ → Text → Text
fitted None text = text
fitted (Some room) text = cut room text

-- ---- columns

abbrev pub no_widths : Widths
no_widths = record { number = 0; marks = 0; due = 0; project = 0; person = 0 }

abbrev pub wider : Widths → Cells → Widths
wider w c = record {
  number = max w.number (width c.number);
  marks = max w.marks (width c.marks);
  due = max w.due (width c.due);
  project = max w.project (width c.project);
  person = max w.person (width c.person);
}

-- as wide as the widest of these, and of those before
abbrev pub widest : Widths → List Cells → Widths
widest w [] = w
widest w (c ∷ cells) = widest (wider w c) cells

abbrev pub padding : ℕ → Text → Text
padding size text = replicate (size - width text) 32

-- a column in which nothing stands is left out
abbrev pub left : ℕ → Text → Text
left size text = if size == 0 then [] else text ++ (padding size text ++ codes "  ")

abbrev pub right : ℕ → Text → Text
right size text = padding size text ++ (text ++ codes "  ")

-- what a column and the gap after it leave of a room
abbrev pub room_after : ℕ → ℕ → ℕ
room_after room size = if size == 0 then room else room - size - 2

-- what is left for the last column of a terminal: 20 at least
abbrev pub room_in : Option ℕ → Widths → Option ℕ
room_in None w = None
room_in (Some columns) w = Some (max 20
    (room_after (room_after (room_after
    (room_after (room_after columns w.number) w.marks) w.due) w.project) w.person))

-- ---- lines

-- bold and colours are for terminals alone
abbrev pub painted : Bool → Text → Text → Text
painted false colour text = text
painted true colour text = colour ++ (text ++ PLAIN.now)

abbrev pub due_column : Bool → ℕ → Cells → Text
due_column is_coloured size c = if c.is_late then painted is_coloured RED.now (left size c.due)
    else left size c.due

-- the columns up to the due day
abbrev pub front : Bool → Widths → Cells → Text
front is_coloured w c =
    painted is_coloured BOLD.now (right w.number c.number)
    ++ (left w.marks c.marks ++ due_column is_coloured w.due c)

-- the columns after it, and the end of the line
abbrev pub rest : Option ℕ → Widths → Cells → Text
rest room w c =
    left w.project c.project ++ (left w.person c.person ++ (fitted room c.what ++ 10 ∷ []))

abbrev pub line : Style → Widths → Cells → Text
line style w c = front style.is_coloured w c ++ rest (room_in style.columns w) w c

abbrev pub lines : Style → Widths → List Cells → Text
lines style w [] = []
lines style w (c ∷ cells) = line style w c ++ lines style w cells

abbrev pub table : Style → List Cells → Text
table style cells = lines style (widest no_widths cells) cells
