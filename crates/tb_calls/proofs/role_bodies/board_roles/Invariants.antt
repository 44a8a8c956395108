use Rattle.std.proofs.Common.{◌≡◌, map, take}
use Rattle.serde_json.specs.View.{view}
use Rattle.tb_calls.specs.RoleBodies.{board_role_data}
use Rattle.tb_calls.proofs.role_bodies.board_roles.Given as goal

abbrev pub invariant-loop-board : goal.invariant-loop-board
invariant-loop-board l = map view l.list.items ≡ map board_role_data (take l.board-index l.boards)
