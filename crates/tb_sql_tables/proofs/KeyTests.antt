-- What the tests of the statements mean: columns that are equal to parameters.
use Rattle.std.proofs.Common.{◌≡◌, ℕ, pos, List, [], ◌∷◌, drop, Bool, true, false, ◌&&◌, ◌==◌, ◌<◌, ◌^◌, bytes_eq, refl, sym, ap, ◌∙◌, inl, inr, arith}
use Rattle.std.specs.Int.{to_be_bytes, from_be_bytes, w128}
use Rattle.std.proofs.lemmas.Bool.Decides.{Decides-eqb, Decides-like, same_from_decides}
use Rattle.std.proofs.lemmas.Slice.Eq.{bytes_eq-Decides}
use Rattle.std.proofs.lemmas.Map.Text.{is_eq-slice_cmp}
use Rattle.sqlite_value.specs.declared.value.Value.{Value}
use Rattle.sqlite_value.specs.declared.value.Value.TheVariants.{Null, Int, Text, Blob}
use Rattle.sqlite_value.specs.declared.keys.Collation.TheVariants.{Binary}
use Rattle.sqlite_value.specs.Order.{Row, column}
use Rattle.sqlite_value.proofs.OrderLemmas.{value_cmp-Int, value_cmp-Text, value_cmp-Blob}
use Rattle.sqlite_sql.specs.Term.{Term, col, op2}
use Rattle.sqlite_sql.specs.Ops.{binary, is_true}
use Rattle.sqlite_sql.specs.declared.ops.BinaryOp.TheVariants.{Compare}
use Rattle.sqlite_sql.specs.declared.ops.CompareOp.TheVariants.{Eq}
use Rattle.uuid.proofs.OrderLemmas.{from_be_bytes-to_be_bytes_16}
use Rattle.tb_sql_tables.proofs.Queries.{passes}
use Rattle.tb_sql_tables.proofs.SqlTests.{and_true, truth_is, same_number}

-- the column at a place of the row is equal to this parameter
abbrev pub equal : ℕ → ℕ → Term
equal place at = op2 (Compare Eq Binary) (col 1 place) (col 0 at)

-- the first one, two or three columns after the rowid are equal to the first parameters
abbrev pub by_one : List Term
by_one = equal 1 0 ∷ []

abbrev pub by_two : List Term
by_two = equal 1 0 ∷ equal 2 1 ∷ []

abbrev pub by_three : List Term
by_three = equal 1 0 ∷ equal 2 1 ∷ equal 3 2 ∷ []

abbrev pub are_equal : Value → Value → Bool
are_equal a b = is_true (binary (Compare Eq Binary) a b)

-- the same tests on the columns alone
abbrev pub has_one : Value → Row → Bool
has_one k cells = are_equal (column cells 0) k

abbrev pub has_two : Value → Value → Row → Bool
has_two k l cells = are_equal (column cells 0) k && are_equal (column cells 1) l

abbrev pub has_three : Value → Value → Value → Row → Bool
has_three k l m cells = are_equal (column cells 0) k && (are_equal (column cells 1) l && are_equal (column cells 2) m)

pub one_tested : (k : Value) (more row : Row) → passes by_one (k ∷ more) row ≡ has_one k (drop 1 row)
one_tested k more [] = and_true _
one_tested k more (id ∷ cells) = and_true _

pub two_tested : (k l : Value) (more row : Row) → passes by_two (k ∷ l ∷ more) row ≡ has_two k l (drop 1 row)
two_tested k l more [] = ap (λ b. are_equal Null k && b) (and_true _)
two_tested k l more (id ∷ cells) = ap (λ b. are_equal (column cells 0) k && b) (and_true _)

pub three_tested : (k l m : Value) (more row : Row) → passes by_three (k ∷ l ∷ m ∷ more) row ≡ has_three k l m (drop 1 row)
three_tested k l m more [] = ap (λ b. are_equal Null k && (are_equal Null l && b)) (and_true _)
three_tested k l m more (id ∷ cells) = ap (λ b. are_equal (column cells 0) k && (are_equal (column cells 1) l && b)) (and_true _)

-- ---- values that are equal

pub equal_numbers : (m n : ℕ) → are_equal (Int (pos m)) (Int (pos n)) ≡ (m == n)
unfolding binary
equal_numbers m n = rw value_cmp-Int (truth_is _ ∙ same_number m n)

pub equal_texts : (a b : List ℕ) → are_equal (Text a) (Text b) ≡ bytes_eq a b
unfolding binary
equal_texts a b = rw value_cmp-Text (truth_is _ ∙ is_eq-slice_cmp a b)

equal_blobs : (a b : List ℕ) → are_equal (Blob a) (Blob b) ≡ bytes_eq a b
unfolding binary
equal_blobs a b = rw value_cmp-Blob (truth_is _ ∙ is_eq-slice_cmp a b)

same_bytes : (m n : ℕ) → m < 2 ^ 128 → n < 2 ^ 128 → bytes_eq (to_be_bytes w128 m) (to_be_bytes w128 n) ≡ (m == n)
same_bytes m n low_m low_n =
    let one : to_be_bytes w128 m ≡ to_be_bytes w128 n → m ≡ n =
    λ bytes. sym (from_be_bytes-to_be_bytes_16 m low_m) ∙ ap (from_be_bytes w128) bytes ∙ from_be_bytes-to_be_bytes_16 n low_n in
    same_from_decides _ _ (Decides-like _ one (ap (to_be_bytes w128)) (bytes_eq-Decides (to_be_bytes w128 m) (to_be_bytes w128 n))) (Decides-eqb m n)

pub equal_identifiers : (m n : ℕ) → m < 2 ^ 128 → n < 2 ^ 128 → are_equal (Blob (to_be_bytes w128 m)) (Blob (to_be_bytes w128 n)) ≡ (m == n)
equal_identifiers m n low_m low_n = equal_blobs _ _ ∙ same_bytes m n low_m low_n
