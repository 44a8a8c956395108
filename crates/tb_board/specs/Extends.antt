-- A later world that has all that an earlier one had.
use Rattle.std.specs.Prelude.{◌≡◌, List, [], ◌∷◌}
use Rattle.tb_task.specs.declared.task.Task.{Task}
use Rattle.tb_board.specs.declared.board.Board.{Board}
use Rattle.tb_board.specs.declared.world.Person.{Person}
use Rattle.tb_board.specs.declared.world.World.{World}

-- at the place of each item of the first list the second one has an item that stands in R to it, and further ones go last
abbrev pub IsFrontOf : {A : Type 0} → (A → A → Type 0) → List A → List A → Type 0
IsFrontOf R [] ys = Unit {0}
IsFrontOf R (x ∷ xs) [] = ⊥
IsFrontOf R (x ∷ xs) (y ∷ ys) = R x y × IsFrontOf R xs ys

-- the later task has the identifier of the earlier one, and its place among a parent's instances
pub record ExtendsTask (earlier later : Task) : Type 0 where
  pub id : later.id ≡ earlier.id
  pub parent : later.parent ≡ earlier.parent
  pub imask : later.imask ≡ earlier.imask

-- the person keeps the name
abbrev pub ExtendsPerson : Person → Person → Type 0
ExtendsPerson earlier later = later.name ≡ earlier.name

-- the board keeps its number, and each task its place
-- Rule: a task keeps its place and stays for good. Tried by place_is_taken_once.
pub record ExtendsBoard (earlier later : Board) : Type 0 where
  pub number : later.number ≡ earlier.number
  pub tasks : IsFrontOf ExtendsTask earlier.tasks later.tasks

-- people and boards stay at their places, and new ones go last
-- Rule: people and boards stay, and new ones go last. Tried by no test.
pub record Extends (earlier later : World) : Type 0 where
  pub people : IsFrontOf ExtendsPerson earlier.people later.people
  pub boards : IsFrontOf ExtendsBoard earlier.boards later.boards
