-- Whether a walk exists, as a test that computes: walks grow by one more node that they may pass.
use Rattle.std.specs.Prelude.{◌≡◌, ◌↔◌, ℕ, zero, suc, ◌==◌, Bool, true, not, ◌||◌, ◌&&◌, [], length, slice_index_or}
use Rattle.std.specs.List.{list_any}
use Rattle.tb_graph.specs.Walk.{Graph, Reaches, IsAcyclic}

-- a walk leads from a to b, and passes only nodes below n between them
unfoldable pub leads_below : Graph → ℕ → ℕ → ℕ → Bool
leads_below g zero a b = list_any (λ t. t == b) (slice_index_or g a [])
leads_below g (suc n) a b = leads_below g n a b || (leads_below g n a n && leads_below g n n b)

-- a walk leads from a to b
unfoldable pub leads : Graph → ℕ → ℕ → Bool
leads g a b = leads_below g (length g) a b

-- none of the first nodes is on a walk back to itself
unfoldable pub none_returns : Graph → ℕ → Bool
none_returns g zero = true
none_returns g (suc n) = not (leads g n n) && none_returns g n

unfoldable pub is_acyclic : Graph → Bool
is_acyclic g = none_returns g (length g)

abbrev pub AreWalksDecided : Type 0
AreWalksDecided = (g : Graph) (a b : ℕ) → (leads g a b ≡ true) ↔ Reaches g a b

abbrev pub IsAcyclicDecided : Type 0
IsAcyclicDecided = (g : Graph) → (is_acyclic g ≡ true) ↔ IsAcyclic g
