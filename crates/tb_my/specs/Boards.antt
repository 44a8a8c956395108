-- Boards by their numbers or titles, and the line of the settings that names one.
use Rattle.std.specs.Prelude.{ℕ, Bool, false, not, ◌||◌, is_some, List, [], ◌∷◌, ◌++◌, codes, decimal, Option, Some, None, option_and_then, if◌then◌else◌}
use Rattle.std.specs.Str.{bytes_eq, trim}
use Rattle.serde_json.specs.Data.{Data, Items, no_items, item}
use Rattle.serde_json.specs.Find.{as_array, get}
use Rattle.serde_json.specs.Read.{read}
use Rattle.tb_my.specs.Days.{Text}
use Rattle.tb_my.specs.Settings.{is_note, lines_of, value_of}
use Rattle.tb_my.specs.Shown.{number_at, text_at}
use Rattle.tb_values.specs.Numerals.{number_to}

-- ---- the boards that a text names

-- from 1 on; other digits, as 0, are a title
abbrev pub is_number : Text → Bool
is_number name = is_some (number_to 4294967295 name)

abbrev pub is_text : Text → Option Text → Bool
is_text name None = false
is_text name (Some title) = bytes_eq title name

-- by its number, and by its title where that is no number
abbrev pub is_named : Text → ℕ → Option Text → Bool
is_named name number title =
    if is_number name then bytes_eq (decimal number) name else is_text name title

abbrev pub if_named : Text → Option ℕ → Option Text → Option ℕ
if_named name None title = None
if_named name (Some number) title = if is_named name number title then Some number else None

abbrev pub named_in : Text → Data → Option ℕ
named_in name board =
    if_named name (number_at (codes "board") board) (text_at (codes "title") board)

abbrev pub with_named : List ℕ → Option ℕ → List ℕ
with_named numbers None = numbers
with_named numbers (Some number) = numbers ++ number ∷ []

abbrev pub with_all_named : Text → List ℕ → Items → List ℕ
with_all_named name numbers no_items = numbers
with_all_named name numbers (item board boards) =
    with_all_named name (with_named numbers (named_in name board)) boards

abbrev pub named_of : Text → Option Items → List ℕ
named_of name None = []
named_of name (Some boards) = with_all_named name [] boards

abbrev pub named_by : Text → Option Data → List ℕ
named_by name None = []
named_by name (Some value) =
    named_of name (option_and_then as_array (get (codes "boards") value))

-- the numbers of the boards of an answer of `me` that have the number or title
-- Rule: a board may be named by its number, or by a title that no other board has. Tried by my.sh.
abbrev pub boards_named : Text → Text → List ℕ
boards_named name body = named_by name (read body)

-- ---- the settings with another board

abbrev pub is_board_line : Text → Bool
is_board_line line = is_some (value_of (trim line) (codes "board"))

-- empty lines and those of the board go
abbrev pub kept_line : Text → Text
kept_line [] = []
kept_line (byte ∷ bytes) =
    if is_board_line (byte ∷ bytes) then [] else (byte ∷ bytes) ++ 10 ∷ []

abbrev pub kept_lines : List Text → Text
kept_lines [] = []
kept_lines (line ∷ lines) = kept_line line ++ kept_lines lines

-- the other lines as they were, but empty ones, and the board last
abbrev pub with_board : Text → Text → Text
with_board text board =
    kept_lines (lines_of text) ++ (codes "board = " ++ (board ++ 10 ∷ []))

-- ---- the settings of somebody who says whom to ask

-- a note, or where the key is
abbrev pub is_unasked : Text → Bool
is_unasked line = is_note line || is_some (value_of line (codes "key-file"))

abbrev pub is_asked_line : Text → Bool
is_asked_line line = not (is_unasked (trim line))

-- empty lines and those that are asked for go
abbrev pub left_line : Text → Text
left_line [] = []
left_line (byte ∷ bytes) =
    if is_asked_line (byte ∷ bytes) then [] else (byte ∷ bytes) ++ 10 ∷ []

abbrev pub left_lines : List Text → Text
left_lines [] = []
left_lines (line ∷ lines) = left_line line ++ left_lines lines

-- no board is one that is named before each word
abbrev pub board_line : Text → Text
board_line [] = []
board_line (byte ∷ bytes) = codes "board = " ++ ((byte ∷ bytes) ++ 10 ∷ [])

abbrev pub asked_lines : Text → Text → Text → Text
asked_lines server name board =
    codes "server = " ++ (server ++ (codes "\nname = " ++ (name ++ 10 ∷ board_line board)))

-- what nobody is asked for stays as it was, and what was said is behind it
-- Rule: `tb setup` keeps the line of the key's file, and notes. Tried by my.sh.
abbrev pub settings_text : Text → Text → Text → Text → Text
settings_text before server name board =
    left_lines (lines_of before) ++ asked_lines server name board
