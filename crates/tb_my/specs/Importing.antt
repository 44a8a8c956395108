-- What imports are sent as, and what is told of them.
use Rattle.std.specs.Prelude.{ℕ, Bool, true, false, ◌==◌, ◌||◌, List, [], ◌∷◌, ◌++◌, codes, decimal, Option, Some, None, option_and_then, unwrap_or, if◌then◌else◌}
use Rattle.std.specs.Str.{trim_start}
use Rattle.serde_json.specs.Data.{Data}
use Rattle.serde_json.specs.Read.{read}
use Rattle.tb_my.specs.Days.{Text, after_key, before_key}
use Rattle.tb_my.specs.Shown.{number_at}
use Rattle.tb_my.specs.Telling.{text_or}

abbrev pub begins_json : Text → Bool
begins_json [] = false
begins_json (byte ∷ bytes) = (byte == 91) || (byte == 123)

-- what some editors put in front of a text, U+FEFF
abbrev pub byte_order_mark : Text
byte_order_mark = 239 ∷ 187 ∷ 191 ∷ []

-- Rule: an import takes a text with a byte order mark as the text without it. Tried by my.sh.
abbrev pub without_mark : Text → Text
without_mark text = unwrap_or (after_key byte_order_mark text) text

-- a text that begins with a bracket is JSON, and another one lines of todo.txt
abbrev pub is_json : Text → Bool
is_json text = begins_json (trim_start (without_mark text))

abbrev pub without_end : Text → Text
without_end text = unwrap_or (before_key (codes "\n") text) text

-- the line feed at its end is put there again
abbrev pub import_words : Bool → Text → Text → List Text
import_words true board text = codes "import" ∷ board ∷ text ∷ []
import_words false board text =
    codes "import-todo" ∷ board ∷ without_end text ∷ []

-- a count that isn't 0
abbrev pub count_text : Text → Option ℕ → Text
count_text what None = []
count_text what (Some n) = if n == 0 then [] else codes ", " ++ (what ++ (codes ": " ++ decimal n))

abbrev pub new_and_known : ℕ → ℕ → Text
new_and_known new known = codes "Imported: "
    ++ (decimal new ++ (codes " new, " ++ (decimal known ++ codes " known before")))

-- what wasn't taken as it came
abbrev pub other_counts : Data → Text
other_counts value =
    count_text (codes "attributes left out") (number_at (codes "dropped") value)
    ++ (count_text (codes "instances without a place at their template")
    (number_at (codes "orphans") value)
    ++ count_text (codes "links to tasks that aren't there")
    (number_at (codes "unlinked") value))

abbrev pub counts_of : Data → Option ℕ → Option ℕ → Option Text
counts_of value None known = None
counts_of value (Some new) None = None
counts_of value (Some new) (Some known) = Some (new_and_known new known ++ other_counts value)

abbrev pub told_of : Data → Option Text
told_of value =
    counts_of value (number_at (codes "new") value) (number_at (codes "known") value)

-- in words, or else the answer as it is
abbrev pub import_told : Text → Text
import_told body = text_or body (option_and_then told_of (read body))
