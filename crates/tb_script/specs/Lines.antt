-- A text as lines, and the answers to them.
use Rattle.std.specs.Prelude.{ℕ, List, [], ◌∷◌, ◌++◌, ◌==◌}
use Rattle.std.specs.List.{slice_split}

-- the lines of a text: a line feed ends one, and the last is what follows the last line feed
abbrev pub lines_of : List ℕ → List (List ℕ)
lines_of text = slice_split (λ b. b == 10) text

-- what a line is answered, and the state that it leaves
pub record Answered (S : Type 0) : Type 0 where
  pub state : S
  pub text : List ℕ

-- the answers to lines, each from the state that the ones before it left
abbrev pub answers : {S : Type 0} → (S → List ℕ → Answered S) → S → List (List ℕ) → List ℕ
answers answer s [] = []
answers answer s (line ∷ lines) = (answer s line).text ++ answers answer (answer s line).state lines

-- the answers to the lines of a text
abbrev pub answers_from : {S : Type 0} → (S → List ℕ → Answered S) → S → List ℕ → List ℕ
answers_from answer s text = answers answer s (lines_of text)
