-- Walks over the tasks of a board, each of which depends on the next.
use Rattle.std.specs.Prelude.{◌≡◌, ◌↔◌, ℕ, ◌==◌, true, List, [], ◌∷◌, Some, find}
use Rattle.std.specs.List.{list_any}
use Rattle.tb_task.specs.declared.task.Task.{Task}
use Rattle.tb_board.specs.declared.board.Board.{Board}
use Rattle.tb_board.specs.Board.{is_on}
use Rattle.tb_board.specs.Tasks.{has_id}
use Rattle.tb_board.specs.Links.{IsAcyclic, leads_on}

-- the task depends on another one of the board
pub record HasLink (b : Board) (x y : ℕ) : Type 0 where
  pub task : Task
  pub found : find (has_id x) b.tasks ≡ Some task
  pub link : list_any (λ id. id == y) task.depends ≡ true
  pub there : is_on b y ≡ true

-- from x over these tasks, each of which depends on the next, to y
abbrev pub IsTaskWalk : Board → ℕ → List ℕ → ℕ → Type 0
IsTaskWalk b x [] y = HasLink b x y
IsTaskWalk b x (z ∷ zs) y = HasLink b x z × IsTaskWalk b z zs y

-- by a walk of one link or more
abbrev pub DependsOn : Board → ℕ → ℕ → Type 0
DependsOn b x y = (over : List ℕ) × IsTaskWalk b x over y

abbrev pub LeadsByWalks : Type 0
LeadsByWalks = (b : Board) (x y : ℕ) → (leads_on b x y ≡ true) ↔ DependsOn b x y

abbrev pub IsAcyclicByWalks : Type 0
IsAcyclicByWalks = (b : Board) → IsAcyclic b ↔ ((x : ℕ) → DependsOn b x x → ⊥)
