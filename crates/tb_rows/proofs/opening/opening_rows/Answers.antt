use Rattle.std.proofs.Common.{refl}
use Rattle.tb_rows.proofs.opening.opening_rows.Goals as goal

pub returns : goal.returns
returns c =
    rw (
      c.in_ok-push-4.ensures.ok,
      c.in_ok-push-3.ensures.ok,
      c.in_ok-push-2.ensures.ok,
      c.in_ok-push.ensures.ok,
      c.new-rows.ensures,
      c.in_ok-person.ensures,
      c.in_ok-board.ensures,
      c.first_horizon.ensures,
    ) refl
