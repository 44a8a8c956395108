-- Lines that are joined.
use Rattle.std.proofs.Common.{◌≡◌, ℕ, List, [], ◌∷◌, ◌++◌, map, Bor, refl, ap}
use Rattle.std.specs.List.{flat_map, join_by}

further : (sep : List ℕ) (ls : List (Bor (List ℕ))) → flat_map (λ (l : Bor (List ℕ)). sep ++ l.now) ls ≡ flat_map (λ l. sep ++ l) (map (λ (l : Bor (List ℕ)). l.now) ls)
further sep [] = refl
further sep (l ∷ ls) = ap (λ rest. (sep ++ l.now) ++ rest) (further sep ls)

pub joined_lent : (sep : List ℕ) (ls : List (Bor (List ℕ))) → join_by (λ (l : Bor (List ℕ)). l.now) sep ls ≡ join_by (λ l. l) sep (map (λ (l : Bor (List ℕ)). l.now) ls)
joined_lent sep [] = refl
joined_lent sep (l ∷ ls) = ap (λ rest. l.now ++ rest) (further sep ls)
