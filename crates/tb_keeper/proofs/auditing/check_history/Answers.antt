use Rattle.std.proofs.Common.{refl}
use Rattle.tb_keeper.proofs.WholeCount.{with_history, without_tables}
use Rattle.tb_keeper.proofs.auditing.check_history.Goals as goal

pub returns-then-tables-clause-checked : goal.returns-then-tables-clause-checked
returns-then-tables-clause-checked g c clean content stands = record {
  size = refl;
  tells = with_history content c.args.board c.args.tables.tasks c.args.tables.as_stored c.in_ok-sound.sound c.if-tables.true (c.in_ok-sound.ensures.tells clean content stands);
}

pub returns-else-tables-clause-checked : goal.returns-else-tables-clause-checked
returns-else-tables-clause-checked g c clean content stands = record {
  size = refl;
  tells = without_tables content c.args.board c.args.tables.tasks c.args.tables.as_stored c.if-tables.false;
}
