-- Scripts of one line, and the state after lines.
use Rattle.std.specs.Prelude.{ℕ, Bool, List, [], ◌∷◌, ◌==◌, not}
use Rattle.std.specs.List.{list_all}
use Rattle.tb_script.specs.Lines.{Answered}

-- no line feed is in the text
abbrev pub is_one_line : List ℕ → Bool
is_one_line text = list_all (λ b. not (b == 10)) text

-- the state that lines leave
abbrev pub left_by : {S : Type 0} → (S → List ℕ → Answered S) → S → List (List ℕ) → S
left_by answer s [] = s
left_by answer s (line ∷ lines) = left_by answer (answer s line).state lines
