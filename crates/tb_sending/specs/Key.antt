-- The keys under which an order may be sent.
use Rattle.std.specs.Prelude.{◌≡◌, ℕ, true, List, Option, Some, None}
use Rattle.tb_board.specs.Names.{is_key}

-- the key that stands among the words; of one that is kept elsewhere nothing is known but its form
abbrev pub IsKeyOf : Option (List ℕ) → List ℕ → Type 0
IsKeyOf (Some given) key = key ≡ given
IsKeyOf None key = is_key key ≡ true
