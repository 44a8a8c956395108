-- What the tests of columns against bounds mean, and of the column of a task, which may be NULL.
use Rattle.std.proofs.Common.{◌≡◌, ℕ, pos, List, [], ◌∷◌, drop, Bool, ◌&&◌, Option, Some, None, refl, ap, ◌∙◌, arith}
use Rattle.std.specs.Prelude.{nat_le}
use Rattle.std.specs.Ordering.{is_ge, is_le, int_cmp}
use Rattle.std.proofs.lemmas.Int.{ints}
use Rattle.std.proofs.lemmas.Bool.Decides.{nat_tests}
use Rattle.sqlite_value.specs.declared.value.Value.{Value}
use Rattle.sqlite_value.specs.declared.value.Value.TheVariants.{Null, Int}
use Rattle.sqlite_value.specs.declared.keys.Collation.TheVariants.{Binary}
use Rattle.sqlite_value.specs.Order.{Row, column}
use Rattle.sqlite_value.proofs.OrderLemmas.{value_cmp-Int}
use Rattle.sqlite_sql.specs.Term.{Term, col, op2}
use Rattle.sqlite_sql.specs.Ops.{binary, is_true}
use Rattle.sqlite_sql.specs.declared.ops.BinaryOp.TheVariants.{Compare}
use Rattle.sqlite_sql.specs.declared.ops.CompareOp.TheVariants.{Ge, Le}
use Rattle.sqlite.specs.Values.{or_null}
use Rattle.tb_sql_tables.proofs.KeyTests.{equal, are_equal, equal_numbers}
use Rattle.tb_sql_tables.proofs.Queries.{passes}
use Rattle.tb_sql_tables.proofs.SqlTests.{and_true, truth_is}
use Rattle.tb_sql_pages.specs.Entries.{names_place}

-- the column at a place of the row is at least, or at most, this parameter
abbrev pub at_least : ℕ → ℕ → Term
at_least place at = op2 (Compare Ge Binary) (col 1 place) (col 0 at)

abbrev pub at_most : ℕ → ℕ → Term
at_most place at = op2 (Compare Le Binary) (col 1 place) (col 0 at)

-- the first column after the rowid is equal to the first parameter, and the second one is in the range of the two others
abbrev pub in_range : List Term
in_range = equal 1 0 ∷ at_least 2 1 ∷ at_most 2 2 ∷ []

abbrev pub is_at_least : Value → Value → Bool
is_at_least a b = is_true (binary (Compare Ge Binary) a b)

abbrev pub is_at_most : Value → Value → Bool
is_at_most a b = is_true (binary (Compare Le Binary) a b)

-- the same test on the columns alone
abbrev pub has_range : Value → Value → Value → Row → Bool
has_range k low high cells = are_equal (column cells 0) k && (is_at_least (column cells 1) low && is_at_most (column cells 1) high)

pub range_tested : (k low high : Value) (more row : Row) → passes in_range (k ∷ low ∷ high ∷ more) row ≡ has_range k low high (drop 1 row)
range_tested k low high more [] = ap (λ b. are_equal Null k && (is_at_least Null low && b)) (and_true _)
range_tested k low high more (id ∷ cells) = ap (λ b. are_equal (column cells 0) k && (is_at_least (column cells 1) low && b)) (and_true _)

-- the first column after the rowid is equal to the first parameter, and the last one to the second
abbrev pub by_task : List Term
by_task = equal 1 0 ∷ equal 7 1 ∷ []

abbrev pub has_task : Value → Value → Row → Bool
has_task k l cells = are_equal (column cells 0) k && are_equal (column cells 6) l

pub task_tested : (k l : Value) (more row : Row) → passes by_task (k ∷ l ∷ more) row ≡ has_task k l (drop 1 row)
task_tested k l more [] = ap (λ b. are_equal Null k && b) (and_true _)
task_tested k l more (id ∷ cells) = ap (λ b. are_equal (column cells 0) k && b) (and_true _)

-- ---- numbers

from_test : (m n : ℕ) → is_ge (int_cmp (pos m) (pos n)) ≡ nat_le n m
from_test m n = grind (arith, ints, nat_tests)

to_test : (m n : ℕ) → is_le (int_cmp (pos m) (pos n)) ≡ nat_le m n
to_test m n = grind (arith, ints, nat_tests)

pub number_from : (m n : ℕ) → is_at_least (Int (pos m)) (Int (pos n)) ≡ nat_le n m
unfolding binary
number_from m n = rw value_cmp-Int (truth_is _ ∙ from_test m n)

pub number_to : (m n : ℕ) → is_at_most (Int (pos m)) (Int (pos n)) ≡ nat_le m n
unfolding binary
number_to m n = rw value_cmp-Int (truth_is _ ∙ to_test m n)

-- ---- a place that may not be there

pub equal_optional : (other : Option ℕ) (place : ℕ) → are_equal (or_null (λ n. Int (pos n)) other) (Int (pos place)) ≡ names_place place other
unfolding binary
equal_optional None place = refl
equal_optional (Some other) place = equal_numbers other place
