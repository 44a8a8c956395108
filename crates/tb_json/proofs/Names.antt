-- The names of an object's members, in byte order.
use Rattle.std.proofs.Common.{◌≡◌, ℕ, List, [], ◌∷◌, ◌++◌, Less}
use Rattle.std.specs.List.{AllByRecursion}
use Rattle.std.specs.List.Sorted.{IsStrictlySortedBy}
use Rattle.serde_json.specs.Data.{Members, no_members, member}
use Rattle.tb_values.proofs.TextSets.{text_cmp}

abbrev pub names : Members → List (List ℕ)
names no_members = []
names (member name d ms) = name ∷ names ms

-- what is below all of a list is below each of it
pub below_later : (first : List ℕ) (xs : List (List ℕ)) (k : List ℕ) (ys : List (List ℕ)) → AllByRecursion (λ y. text_cmp first y ≡ Less) (xs ++ k ∷ ys) → text_cmp first k ≡ Less
below_later first [] k ys h = h.0
below_later first (x ∷ xs) k ys h = below_later first xs k ys h.1

all_of_part : (P : List ℕ → Type 0) (xs : List (List ℕ)) (k : List ℕ) (ys : List (List ℕ)) → AllByRecursion P (xs ++ k ∷ ys) → AllByRecursion P (xs ++ ys)
all_of_part P [] k ys h = h.1
all_of_part P (x ∷ xs) k ys h = (h.0, all_of_part P xs k ys h.1)

-- without one of them, the names still ascend
pub ordered_without : (xs : List (List ℕ)) (k : List ℕ) (ys : List (List ℕ)) → IsStrictlySortedBy text_cmp (xs ++ k ∷ ys) → IsStrictlySortedBy text_cmp (xs ++ ys)
unfolding IsStrictlySortedBy
ordered_without [] k ys h = h.1
ordered_without (x ∷ xs) k ys h = (all_of_part _ xs k ys h.0, ordered_without xs k ys h.1)
