-- The order of the listing: by falling urgency, and by rising place where two are equally urgent.
use Rattle.std.specs.Prelude.{ℕ, ℤ, List, [], ◌∷◌, if◌then◌else◌}
use Rattle.std.specs.Ordering.{nat_cmp, int_cmp, ordering_then, is_lt}
use Rattle.std.specs.declared.cmp.Ordering.{Ordering}
use Rattle.std.specs.declared.cmp.Reverse.{Reverse}

-- the urgency of a task and its place
abbrev pub Rank : Type 0
Rank = Reverse ℤ × ℕ

-- the greater urgency goes first, then the lower place
-- Rule: the listing falls by urgency, then goes by place. Tried by cycle.
abbrev pub rank_order : Rank → Rank → Ordering
rank_order a b = ordering_then (int_cmp b.0.0 a.0.0) (nat_cmp a.1 b.1)

-- an element before the first that it doesn't go after
abbrev pub inserted : {X : Type 0} → (X → X → Ordering) → X → List X → List X
inserted cmp x [] = x ∷ []
inserted cmp x (y ∷ ys) = if is_lt (cmp y x) then y ∷ inserted cmp x ys else x ∷ (y ∷ ys)

-- the elements in order
abbrev pub ordered : {X : Type 0} → (X → X → Ordering) → List X → List X
ordered cmp [] = []
ordered cmp (x ∷ xs) = inserted cmp x (ordered cmp xs)
