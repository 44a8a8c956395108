use Rattle.std.proofs.Common.{◌≡◌, false, take}
use Rattle.std.specs.List.{filter_map}
use Rattle.sqlite.specs.Held.{state}
use Rattle.tb_calls.specs.Roles.{person_role}
use Rattle.tb_sql.specs.Opening.{IsAsBefore}
use Rattle.tb_lookup.specs.Reopening.{OfState}
use Rattle.tb_lookup.proofs.people_on.with_names.Given as goal

abbrev pub invariant-loop-role : goal.invariant-loop-role
invariant-loop-role g l = record {
  idle : l.conn.in_transaction ≡ false;
  same : IsAsBefore (state g.S.Store l.fn.conn) (state g.S.Store l.conn);
  people : OfState (state g.S.Store l.fn.conn) (state g.S.Store l.conn) (λ s. l.people ≡ filter_map (person_role s.world) (take l.role-index l.roles));
}
