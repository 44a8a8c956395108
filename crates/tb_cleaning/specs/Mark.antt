-- The byte order mark that some editors put in front of a text.
use Rattle.std.specs.Prelude.{ℕ, List, [], ◌∷◌, unwrap_or}
use Rattle.tb_task.specs.Step.{without_front}

-- U+FEFF
abbrev pub mark : List ℕ
mark = 239 ∷ 187 ∷ 191 ∷ []

-- Rule: cleaning drops a byte order mark. Tried by own_cleaning.sh.
abbrev pub without_mark : List ℕ → List ℕ
without_mark text = unwrap_or (without_front mark text) text
