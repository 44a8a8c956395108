use Rattle.std.proofs.Common.{◌≡◌, ◌∙◌, ◌==◌, false, get_or, arith, rules}
use Rattle.std.proofs.lemmas.Bool.{eq-eqb}
use Rattle.std.proofs.lemmas.Bool.Decides.{nat_tests}
use Rattle.tb_board.specs.declared.world.Role.TheVariants.{Owner}
use Rattle.tb_board.specs.declared.world.RoleOn.{RoleOn}
use Rattle.tb_calls.specs.Roles.{is_on, person_role}
use Rattle.tb_calls.proofs.RoleLists.{left_out, passed}
use Rattle.tb_calls.proofs.roles.people_on.Goals as goal
use Rattle.tb_calls.proofs.roles.people_on.Goals.{then-role-board+in_ok-push_person, else-role-board}

pub loop-role-preserved : goal.loop-role-preserved
loop-role-preserved c =
    let roles = c.as_slice-role-items.result.now in
    let at = c.loop-role.role-index in
    let other : RoleOn = record { board = 0; person = 0; role = Owner } in
    elim c.if-role-board.branch [
      | then-role-board+in_ok-push_person w ↦
          passed (person_role c.args.world.now) (is_on c.args.board) roles at other (search rules) c.loop-role.people c.if-role-board.people (eq-eqb _ _ w.if-role-board.true) c.loop-role.invariant (w.people-is ∙ w.in_ok-push_person.ensures)
      | else-role-board w ↦
          let apart : ((get_or roles at other).board == c.args.board) ≡ false = let differ = w.if-role-board.false in grind (arith, nat_tests) in
          w.people-is ∙ left_out (person_role c.args.world.now) (is_on c.args.board) roles at other (search rules) c.loop-role.people apart c.loop-role.invariant
    ]
