use Rattle.tb_keeper.proofs.Commits.{part_leads}
use Rattle.tb_keeper.proofs.row_changes.rows_for.Goals as goal

pub returns-in-Ok-clause-leads : goal.returns-in-Ok-clause-leads
returns-in-Ok-clause-leads g c clean s stored are count deed call may =
    part_leads s c.args.people c.in_ok-part.part _ c.args.changes.now c.in-Ok.rows deed call stored.rows.good may (c.in_ok-part.ensures.found clean s stored are) c.board_of.ensures count c.in-Ok.ensures.leads
