-- Texts in byte order.
use Rattle.std.specs.Prelude.{ℕ, List, [], ◌∷◌}
use Rattle.std.specs.BTreeSet.{insert_key}
use Rattle.std.specs.Ordering.{nat_cmp}
use Rattle.std.specs.Cmp.Lexicographic.{slice_cmp}

-- texts go in one after another, each at its place in byte order unless it is there
abbrev pub with_texts : List (List ℕ) → List (List ℕ) → List (List ℕ)
with_texts found [] = found
with_texts found (text ∷ texts) = with_texts (insert_key (slice_cmp nat_cmp) found text) texts
