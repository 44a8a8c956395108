use Rattle.std.proofs.Common.{sym}
use Rattle.tb_board.specs.declared.world.Role.TheVariants.{Owner}
use Rattle.tb_board.proofs.changing.roles_with.Goals as goal

pub returns : goal.returns
returns c =
    let first = rw c.as_slice.ensures at c.in-Some.ensures in
    rw (c.set.ensures, c.with_role-item.ensures, c.as_slice-2.ensures, first.stands)
    (sym (first.changed (λ r. record r { role = c.args.role }) (record { board = 0; person = 0; role = Owner })))
