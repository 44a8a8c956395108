use Rattle.std.proofs.Common.{◌≡◌, IsTrue, take}
use Rattle.sqlite.specs.Held.{state}
use Rattle.sqlite.specs.State.{HasCleanDisk, Survives}
use Rattle.tb_sql_tables.specs.Statements.{Changes}
use Rattle.tb_sql.specs.Writing.{changed_by_all}
use Rattle.tb_sql.proofs.changes.apply_changes.Given as goal

abbrev pub invariant-changes : goal.invariant-changes
invariant-changes g l =
    let old = state g.S.Store l.initial.tx.conn.now in
    let now = state g.S.Store l.tx.conn.now in
    record {
      same_reference : l.tx.conn.ghost_name ≡ l.initial.tx.conn.ghost_name;
      survives : Survives old now (λ _. ⊥);
      put : HasCleanDisk now → IsTrue old.in_transaction → IsTrue old.is_open → Changes (changed_by_all (take l.change-index l.changes)) old now;
    }
