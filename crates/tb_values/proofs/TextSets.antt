-- Sets of `String`s as lists of texts.
use Rattle.std.proofs.Common.{◌≡◌, ℕ, List, [], ◌∷◌, map, String, Global, Ordering, Less, Equal, Greater, string_bytes, string_cmp, nat_cmp, refl, ◌∙◌}
use Rattle.std.specs.BTreeSet.{insert_key}
use Rattle.std.specs.Cmp.Lexicographic.{slice_cmp}
use Rattle.std.specs.List.{AllByRecursion}
use Rattle.std.specs.List.Sorted.{IsStrictlySortedBy}
use Rattle.std.specs.Ordering.{match_ordering}

-- byte order
abbrev pub text_cmp : List ℕ → List ℕ → Ordering
text_cmp x y = slice_cmp nat_cmp x y

abbrev pub bytes_of : List (String Global) → List (List ℕ)
bytes_of ks = map string_bytes ks

bytes_of-match_ordering : (o : Ordering) (a b c : List (String Global)) → bytes_of (match_ordering o a b c) ≡ match_ordering o (bytes_of a) (bytes_of b) (bytes_of c)
bytes_of-match_ordering Less a b c = refl
bytes_of-match_ordering Equal a b c = refl
bytes_of-match_ordering Greater a b c = refl

pub bytes_of-insert_key : (ks : List (String Global)) (k : String Global) → bytes_of (insert_key string_cmp ks k) ≡ insert_key text_cmp (bytes_of ks) (string_bytes k)
bytes_of-insert_key [] k = refl
bytes_of-insert_key (x ∷ ks) k = bytes_of-match_ordering (string_cmp k x) _ _ _ ∙ rw (bytes_of-insert_key ks k)

below_texts : (k : String Global) (ks : List (String Global)) → AllByRecursion (λ y. string_cmp k y ≡ Less) ks → AllByRecursion (λ y. text_cmp (string_bytes k) y ≡ Less) (bytes_of ks)
below_texts k [] h = tt
below_texts k (x ∷ ks) h = (h.0, below_texts k ks h.1)

pub sorted_texts : (ks : List (String Global)) → IsStrictlySortedBy string_cmp ks → IsStrictlySortedBy text_cmp (bytes_of ks)
unfolding IsStrictlySortedBy
sorted_texts [] h = tt
sorted_texts (k ∷ ks) h = (below_texts k ks h.0, sorted_texts ks h.1)
