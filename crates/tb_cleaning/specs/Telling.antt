-- Texts of others on a line, as a terminal shows them.
use Rattle.std.specs.Prelude.{ℕ, ◌||◌, ◌&&◌, nat_le, List, ◌++◌, codes, map, take, option_and_then, unwrap_or, if◌then◌else◌}
use Rattle.std.specs.Str.{chars, encode_utf8_all}
use Rattle.serde_json.specs.Data.{Data}
use Rattle.serde_json.specs.Find.{as_str, get}
use Rattle.tb_cleaning.specs.Steps.{Text}

-- a space for each control character
abbrev pub shown_char : ℕ → ℕ
shown_char c = if nat_le c 31 || (nat_le 127 c && nat_le c 159) then 32 else c

-- at most 80 characters
unfoldable pub one_line : Text → Text
one_line text = encode_utf8_all (map shown_char (take 80 (chars text)))

-- a text under a name, or a question mark
abbrev pub text_under : Text → Data → Text
text_under name d = unwrap_or (option_and_then as_str (get name d)) (codes "?")

-- the uuid and the description of a task, as they were given
abbrev pub name_of : Data → Text
name_of d = one_line (text_under (codes "uuid") d)
    ++ (codes " \"" ++ (one_line (text_under (codes "description") d) ++ codes "\""))

-- a line that says something of a task
abbrev pub line_of : Text → Data → Text → Text
line_of label d what = label ++ (name_of d ++ (codes ": " ++ what))
