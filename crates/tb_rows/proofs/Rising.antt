-- The rows of a world stand in the order of their keys.
use Rattle.std.proofs.Common.{◌≡◌, ℕ, ◌+◌, ◌<◌, ◌≤◌, List, [], ◌∷◌, map, refl, arith}
use Rattle.std.specs.List.{AllByRecursion}
use Rattle.sqlite_trees.specs.Tree.{IsAscending}
use Rattle.sqlite_keyed.proofs.ListLemmas.{all_weaker}
use Rattle.tb_board.specs.declared.board.Board.{Board}
use Rattle.tb_board.specs.declared.world.Person.{Person}
use Rattle.tb_sql_tables.specs.declared.rows.BoardRow.{BoardRow}
use Rattle.tb_sql.specs.Changes.{IsPersonBefore, IsBoardBefore, IsTaskBefore}
use Rattle.tb_rows.specs.Rows.{rows_from, person_row, board_row, task_row, board_tasks}
use Rattle.tb_rows.proofs.Joined.{AreNumberedFrom}

module _ {A R : Type 0} (f : ℕ → A → R) (key : R → ℕ) (keyed : (n : ℕ) (x : A) → key (f n x) ≡ n) where
  abbrev numbered_rows : ℕ → List A → List R
  numbered_rows n xs = rows_from (λ k x. f k x ∷ []) n xs

  at_least : (m n : ℕ) (xs : List A) → m ≤ n → AllByRecursion (λ r. m ≤ key r) (numbered_rows n xs)
  at_least m n [] le = tt
  at_least m n (x ∷ xs) le = (omega (arith, keyed n x), at_least m (n + 1) xs (omega arith))

  pub numbered_rise : (n : ℕ) (xs : List A) → IsAscending (λ r s. key r < key s) (numbered_rows n xs)
  numbered_rise n [] = tt
  numbered_rise n (x ∷ xs) =
      (all_weaker (λ r. n + 1 ≤ key r) (λ r. key (f n x) < key r) (λ r le. omega (arith, keyed n x)) _ (at_least (n + 1) (n + 1) xs (omega arith)), numbered_rise (n + 1) xs)

pub people_rise : (ps : List Person) → IsAscending IsPersonBefore (rows_from (λ n p. person_row n p ∷ []) 1 ps)
people_rise ps = numbered_rise person_row (λ row. row.id) (λ n p. refl) 1 ps

pub tasks_rise : (b : Board) → IsAscending IsTaskBefore (board_tasks b)
tasks_rise b = numbered_rise (task_row b) (λ row. row.place) (λ n t. refl) 1 b.tasks

boards_above : (m n : ℕ) (bs : List Board) → m ≤ n → AreNumberedFrom n bs → AllByRecursion (λ (row : BoardRow). m ≤ row.id) (map board_row bs)
boards_above m n [] le numbered = tt
boards_above m n (b ∷ bs) le numbered = (omega (arith, numbered.0), boards_above m (n + 1) bs (omega arith) numbered.1)

pub boards_rise : (n : ℕ) (bs : List Board) → AreNumberedFrom n bs → IsAscending IsBoardBefore (map board_row bs)
boards_rise n [] numbered = tt
boards_rise n (b ∷ bs) numbered =
    (all_weaker (λ (row : BoardRow). n + 1 ≤ row.id) (λ row. b.number < row.id) (λ row le. omega (arith, numbered.0)) _ (boards_above (n + 1) (n + 1) bs (omega arith) numbered.1), boards_rise (n + 1) bs numbered.1)
