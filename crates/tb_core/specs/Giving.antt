-- The decision that gives a role.
use Rattle.std.specs.Prelude.{◌≡◌, ℕ, [], ◌∷◌, ◌++◌, Option, Ok}
use Rattle.tb_board.specs.declared.board.Board.{Board}
use Rattle.tb_board.specs.declared.change.Change.TheVariants.{SetRole}
use Rattle.tb_core.specs.declared.deciding.Decision.{Decision}
use Rattle.tb_board.specs.declared.draft.Draft.{Draft}
use Rattle.tb_board.specs.declared.world.Role.{Role}
use Rattle.tb_core.specs.Apply.{role_answer}
use Rattle.tb_sweep.specs.Sweeping.{sweep}
use Rattle.tb_board.specs.Changing.{IsDraft}

-- the changes of the sweep, and then the role
pub record IsRoleDecision (b : Board) (person : ℕ) (role : Option Role) (m : ℕ)
    (d : Decision) : Type 0 where
  pub draft : Draft
  pub made : IsDraft b draft
  pub swept : draft.board ≡ sweep b m
  pub changes : d.changes ≡ draft.changes ++ SetRole b.number person role ∷ []
  pub answer : d.answer ≡ Ok (role_answer b m)
