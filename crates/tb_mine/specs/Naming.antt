-- The board that words are about, by its number or its title.
use Rattle.std.specs.Prelude.{◌≡◌, ℕ, Bool, true, false, List, [], ◌∷◌, codes, decimal, Option, Some, None}
use Rattle.tb_mine.specs.Asked.{Asked, asked_of}
use Rattle.tb_my.specs.Boards.{boards_named, is_number}
use Rattle.tb_my.specs.Days.{Text}

-- The person's boards were asked for. It is the one of that number, or the only one of that title.
abbrev pub IsNumbered : Text → Asked → Option Text → Type 0
IsNumbered name look (Some board) =
    (body : List ℕ) × (number : ℕ)
    × (look ≡ asked_of (codes "me" ∷ []) None (record { is_accepted = true; body = body }))
    × (boards_named name body ≡ number ∷ []) × (board ≡ decimal number)
IsNumbered name look None =
    (look.words ≡ codes "me" ∷ []) × (look.call ≡ None)
    × (look.answer.is_accepted ≡ true → (number : ℕ)
    → boards_named name look.answer.body ≡ number ∷ [] → ⊥)

-- nothing is asked for where the name is a number
abbrev pub IsFoundIf : Bool → Text → List Asked → Option Text → Type 0
IsFoundIf true name asked board = (asked ≡ []) × (board ≡ Some name)
IsFoundIf false name asked board =
    (look : Asked) × (asked ≡ look ∷ []) × IsNumbered name look board

abbrev pub IsFound : Text → List Asked → Option Text → Type 0
IsFound name asked board = IsFoundIf (is_number name) name asked board
