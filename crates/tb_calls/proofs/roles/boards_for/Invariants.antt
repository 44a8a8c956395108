use Rattle.std.proofs.Common.{◌≡◌, filter, take}
use Rattle.std.specs.List.{filter_map}
use Rattle.tb_calls.specs.Roles.{board_role, is_of}
use Rattle.tb_calls.proofs.roles.boards_for.Given as goal

abbrev pub invariant-loop-role : goal.invariant-loop-role
invariant-loop-role l = l.boards ≡ filter_map (board_role l.world) (filter (is_of l.number) (take l.role-index l.role-items))
