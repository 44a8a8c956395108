-- The JSON of a list of tasks, each on a line of its own between the lines of the brackets.
use Rattle.std.specs.Prelude.{ℕ, Bool, true, false, List, [], ◌∷◌, ◌++◌}

-- the texts with a comma and a line feed between each two
abbrev pub separated : List (List ℕ) → List ℕ
separated [] = []
separated (text ∷ []) = text
separated (text ∷ more ∷ texts) = text ++ 44 ∷ 10 ∷ separated (more ∷ texts)

-- a line feed follows, where there is a task
abbrev pub ended : List (List ℕ) → List ℕ
ended [] = []
ended (text ∷ texts) = separated (text ∷ texts) ++ 10 ∷ []

abbrev pub list_text : List (List ℕ) → List ℕ
list_text texts = 91 ∷ 10 ∷ (ended texts ++ 93 ∷ 10 ∷ [])

-- for a private clause: a text, and the separator before it
abbrev pub piece : Bool → List ℕ → List ℕ
piece true text = text
piece false text = 44 ∷ 10 ∷ text

-- for a loop: the texts, each but the first of all with the separator before it
abbrev pub pieces : Bool → List (List ℕ) → List ℕ
pieces is_first [] = []
pieces is_first (text ∷ texts) = piece is_first text ++ pieces false texts

-- for a loop: the line feed after them, where there is one
abbrev pub line_end : Bool → List (List ℕ) → List ℕ
line_end true [] = []
line_end true (text ∷ texts) = 10 ∷ []
line_end false texts = 10 ∷ []
