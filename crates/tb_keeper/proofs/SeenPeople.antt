-- The people on a board, for those who have a role there.
use Rattle.std.proofs.Common.{◌≡◌, ◌∙◌, ℕ, List, Option, Some, None, sym, ap}
use Rattle.tb_board.specs.declared.world.Role.{Role}
use Rattle.tb_board.specs.declared.world.World.{World}
use Rattle.tb_board.specs.World.{role_of}
use Rattle.tb_calls.specs.Roles.{people_on, where_some}
use Rattle.tb_calls.specs.declared.role_bodies.PersonRole.{PersonRole}

module _ (w : World) (board person : ℕ) (caller : Option Role) (caller_is : caller ≡ role_of w board person) where
  pub people_seen : (role : Role) (people : List PersonRole) → caller ≡ Some role → people ≡ people_on w board → Some people ≡ where_some (role_of w board person) (people_on w board)
  people_seen role people is are = ap Some are ∙ ap (λ (o : Option Role). where_some o (people_on w board)) (sym is ∙ caller_is)

  pub nobody_seen : caller ≡ None → None ≡ where_some (role_of w board person) (people_on w board)
  nobody_seen is = ap (λ (o : Option Role). where_some o (people_on w board)) (sym is ∙ caller_is)
