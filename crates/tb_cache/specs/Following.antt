-- What boards at hand are after changes, whatever world they are of.
use Rattle.std.specs.Prelude.{◌≢◌, ℕ, List, [], ◌∷◌, Option, Some, None, Contains, nat_eq}
use Rattle.std.specs.Map.{lookup, remove_entry}
use Rattle.std.specs.Option.{option_map_or}
use Rattle.tb_board.specs.declared.board.Board.{Board}
use Rattle.tb_board.specs.declared.change.Change.{Change}
use Rattle.tb_board.specs.Changing.{changed_on}
use Rattle.tb_board.specs.declared.change.Change.TheVariants.{PutTask, AddPerson, SetKey, AddBoard, SetTitle, SetRole, SetGone, TakeGone, SetAhead}

-- the board that a change touches: its title, its tasks, its gone places, or how far ahead it looks
abbrev pub touched : Change → Option ℕ
touched (PutTask m place t) = Some m
touched (AddPerson name key) = None
touched (SetKey name key) = None
touched (AddBoard m title) = None
touched (SetTitle m title) = Some m
touched (SetRole m person role) = None
touched (SetGone m g) = Some m
touched (TakeGone m id k) = Some m
touched (SetAhead m ahead) = Some m

-- none of the changes touches this board
abbrev pub TouchesNone : ℕ → List Change → Type 0
TouchesNone n cs = (c : Change) → Contains cs c → touched c ≢ Some n

-- a board that is at hand is changed, and is the last used one
abbrev pub changed_at : List (ℕ × Board) → Change → Option ℕ → List (ℕ × Board)
changed_at es c None = es
changed_at es c (Some n) =
    option_map_or (λ b. (n, changed_on b c) ∷ remove_entry (nat_eq n) es) (lookup (nat_eq n) es) es

abbrev pub followed_by : List (ℕ × Board) → Change → List (ℕ × Board)
followed_by es c = changed_at es c (touched c)

-- boards at hand after changes, where none of them went
abbrev pub followed : List (ℕ × Board) → List Change → List (ℕ × Board)
followed es [] = es
followed es (c ∷ cs) = followed (followed_by es c) cs
