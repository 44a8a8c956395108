-- Sets of identifiers and of places.
use Rattle.std.specs.Prelude.{ℕ, Bool}
use Rattle.std.specs.BTreeSet.{contains}
use Rattle.std.specs.Ordering.{nat_cmp, ordering_then}
use Rattle.std.specs.declared.cmp.Ordering.{Ordering}
use Rattle.tb_import.specs.declared.ids.Ids.{Ids}
use Rattle.tb_import.specs.declared.places.Places.{Places}

abbrev pub has : Ids → ℕ → Bool
has s id = contains nat_cmp s.set id

-- by identifiers, and then by places
abbrev pub place_cmp : ℕ × ℕ → ℕ × ℕ → Ordering
place_cmp x y = ordering_then (nat_cmp x.0 y.0) (nat_cmp x.1 y.1)

abbrev pub has_place : Places → ℕ → ℕ → Bool
has_place s id k = contains place_cmp s.set (id, k)
