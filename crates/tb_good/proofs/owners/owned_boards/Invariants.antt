use Rattle.std.proofs.Common.{◌≡◌, ℕ, nat_cmp, take}
use Rattle.std.specs.BTreeSet.{contains}
use Rattle.std.specs.List.{list_any}
use Rattle.tb_board.specs.World.{owns}
use Rattle.tb_good.proofs.owners.owned_boards.Given as goal

abbrev pub invariant-loop-role : goal.invariant-loop-role
invariant-loop-role l = (board : ℕ) → contains nat_cmp l.owned board ≡ list_any (owns board) (take l.role-index l.roles)
