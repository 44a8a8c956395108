-- Answers of views in lines for people.
use Rattle.std.specs.Prelude.{ℕ, ◌++◌, [], ◌∷◌, codes, decimal, Option, Some, None, option_and_then, option_map}
use Rattle.serde_json.specs.Data.{Data, Items, no_items, item}
use Rattle.serde_json.specs.Find.{as_array, as_number, as_str, as_u64, get}
use Rattle.serde_json.specs.Read.{read}
use Rattle.tb_my.specs.Days.{Text}
use Rattle.tb_my.specs.Telling.{shown_text, text_or}

abbrev pub text_at : Text → Data → Option Text
text_at name value = option_and_then as_str (get name value)

abbrev pub number_at : Text → Data → Option ℕ
number_at name value = option_and_then as_u64 (option_and_then as_number (get name value))

-- `1  owner  Home`
abbrev pub titled : ℕ → Text → Text → Text
titled number role title =
    decimal number ++ (codes "  " ++ (shown_text role ++ (codes "  " ++ (shown_text title ++ 10 ∷ []))))

abbrev pub board_line : Data → Option Text
board_line board =
    option_and_then
    (λ number.
    option_and_then (λ role. option_map (titled number role) (text_at (codes "title") board))
    (text_at (codes "role") board)) (number_at (codes "board") board)

-- `ann  owner`
abbrev pub placed : Text → Text → Text
placed name role = shown_text name ++ (codes "  " ++ (shown_text role ++ 10 ∷ []))

abbrev pub person_line : Data → Option Text
person_line person =
    option_and_then (λ name. option_map (placed name) (text_at (codes "role") person))
    (text_at (codes "name") person)

-- the lines of an array behind a text, if each of its values has one
abbrev pub with_lines : (Data → Option Text) → Text → Items → Option Text
with_lines line_of text no_items = Some text
with_lines line_of text (item value more) =
    option_and_then (λ line. with_lines line_of (text ++ line) more) (line_of value)

abbrev pub boards_or_people : Option Items → Option Items → Option Text
boards_or_people (Some boards) people = with_lines board_line [] boards
boards_or_people None (Some people) = with_lines person_line [] people
boards_or_people None None = None

abbrev pub lines_of : Data → Option Text
lines_of value =
    boards_or_people (option_and_then as_array (get (codes "boards") value))
    (option_and_then as_array (get (codes "people") value))

-- a line for each board, or for each person on the board; any other answer as it is
abbrev pub shown_answer : Text → Text
shown_answer body = text_or body (option_and_then lines_of (read body))
