use Rattle.std.proofs.Common.{subst}
use Rattle.tb_lookup.specs.People.{IsPersonFound}
use Rattle.tb_keeper.proofs.Commits.{row_found}
use Rattle.tb_keeper.proofs.row_changes.kept_row_for.Goals as goal

pub returns-in-Ok-row_of-clause-row : goal.returns-in-Ok-row_of-clause-row
returns-in-Ok-row_of-clause-row g c clean s stored known =
    let found = subst (IsPersonFound s.world c.args.call.now.member) c.in-Some.is (c.in_ok-person.ensures.found clean s stored known) in
    row_found s.world c.args.call.now c.args.reply.now c.in-Some.person c.in-Ok.number c.in-Ok-row_of.row found c.in-Ok.ensures.1 c.in-Ok-row_of.ensures
