-- The parts of a text.
use Rattle.std.specs.List.{filter, slice_split}
use Rattle.std.specs.Prelude.{ℕ, Bool, false, ◌==◌, ◌||◌, nat_lt, List, [], ◌∷◌, length}

-- the parts of a text around its commas
abbrev pub parts_of : List ℕ → List (List ℕ)
parts_of text = slice_split (λ b. b == 44) text

abbrev pub filled_parts : List ℕ → List (List ℕ)
filled_parts text = filter (λ part. nat_lt 0 (length part)) (parts_of text)

abbrev pub has_blank : List ℕ → Bool
has_blank [] = false
has_blank (byte ∷ text) = (byte == 32) || has_blank text
