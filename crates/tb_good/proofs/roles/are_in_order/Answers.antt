use Rattle.std.proofs.Common.{is_lt, rules}
use Rattle.std.proofs.lemmas.List.Sorted.{answers_always}
use Rattle.tb_board.specs.declared.world.RoleOn.{RoleOn}
use Rattle.tb_board.specs.Roles.{role_order}
use Rattle.tb_board.proofs.RoleOrder.{role_total}
use Rattle.tb_good.proofs.Ordering.{sorted_tells}
use Rattle.tb_good.proofs.roles.are_in_order.Goals as goal

pub returns : goal.returns
returns c = sorted_tells role_total c.args.roles.now c.is_sorted_by.result (c.is_sorted_by.ensures.cases (λ (r s : RoleOn). is_lt (role_order r s)) (answers_always _ _ _ (λ f a r h k. search rules)))
