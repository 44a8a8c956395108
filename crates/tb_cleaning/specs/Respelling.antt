-- A task of a text as an import takes it: numbers are whole, and steps are those of boards.
use Rattle.std.specs.Prelude.{ℤ, pos, List, [], ◌∷◌, ◌++◌, codes, Option, Some, None, option_map, unwrap_or, if◌then◌else◌}
use Rattle.std.specs.Fmt.{signed_decimal}
use Rattle.std.specs.Str.{bytes_eq}
use Rattle.serde_json.specs.Data.{Data, null, boolean, number, string, array, object, unsigned, Members, no_members, member, put}
use Rattle.serde_json.specs.Find.{of_integer}
use Rattle.tb_cleaning.specs.Numbers.{whole_in, whole_of}
use Rattle.tb_cleaning.specs.Steps.{Text, respelled}
use Rattle.tb_cleaning.specs.Telling.{one_line}

-- ---- what is written otherwise

-- a text, where another value means the same: a place of an instance, or a step
abbrev pub new_text : Text → Text → Option Data
new_text name s =
    if bytes_eq name (codes "imask") then option_map (λ n. number (unsigned n)) (whole_in s)
    else if bytes_eq name (codes "recur") then option_map string (respelled s)
    else None

-- the value of a member, where another one means the same
abbrev pub new_value : Text → Data → Option Data
new_value name null = None
new_value name (boolean b) = None
new_value name (number n) = option_map (λ z. number (of_integer z)) (whole_of n)
new_value name (string s) = new_text name s
new_value name (array ds) = None
new_value name (object ms) = None

abbrev pub value_of : Text → Data → Data
value_of name d = unwrap_or (new_value name d) d

-- the members after those found
abbrev pub members_on : Members → Members → Members
members_on found no_members = found
members_on found (member name d ms) = members_on (put name (value_of name d) found) ms

-- only a task's own members change
abbrev pub item_of : Data → Data
item_of null = null
item_of (boolean b) = boolean b
item_of (number n) = number n
item_of (string s) = string s
item_of (array ds) = array ds
item_of (object ms) = object (members_on no_members ms)

-- ---- what is told of it

abbrev pub whole_text : Text → ℤ → Text
whole_text name z = one_line name ++ (codes " is " ++ signed_decimal z)

abbrev pub step_text : Text → Text → Text
step_text before step = codes "recur " ++ (one_line before ++ (codes " is " ++ step))

abbrev pub text_change : Text → Text → Option Text
text_change name s =
    if bytes_eq name (codes "imask") then option_map (λ n. whole_text name (pos n)) (whole_in s)
    else if bytes_eq name (codes "recur") then option_map (step_text s) (respelled s)
    else None

abbrev pub change_of : Text → Data → Option Text
change_of name null = None
change_of name (boolean b) = None
change_of name (number n) = option_map (whole_text name) (whole_of n)
change_of name (string s) = text_change name s
change_of name (array ds) = None
change_of name (object ms) = None

abbrev pub with_text : List Text → Option Text → List Text
with_text found None = found
with_text found (Some text) = found ++ text ∷ []

abbrev pub changes_on : List Text → Members → List Text
changes_on found no_members = found
changes_on found (member name d ms) = changes_on (with_text found (change_of name d)) ms

abbrev pub changes_of : Data → List Text
changes_of null = []
changes_of (boolean b) = []
changes_of (number n) = []
changes_of (string s) = []
changes_of (array ds) = []
changes_of (object ms) = changes_on [] ms
