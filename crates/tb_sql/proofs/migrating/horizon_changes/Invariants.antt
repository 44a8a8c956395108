use Rattle.std.proofs.Common.{◌≡◌, take}
use Rattle.tb_sql.specs.Migrating.{horizon_changes}
use Rattle.tb_sql.proofs.migrating.horizon_changes.Given as goal

abbrev pub invariant-boards : goal.invariant-boards
invariant-boards l = l.rows ≡ horizon_changes (take l.board-index l.boards)
