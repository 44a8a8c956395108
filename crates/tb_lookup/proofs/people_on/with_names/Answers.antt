use Rattle.std.proofs.Common.{rules}
use Rattle.sqlite.specs.Held.{state}
use Rattle.tb_calls.specs.Roles.{person_role}
use Rattle.tb_lookup.proofs.Standing.{before_then}
use Rattle.tb_lookup.specs.Named.{IsNamed}
use Rattle.tb_lookup.proofs.Gathered.{gathered}
use Rattle.tb_lookup.proofs.people_on.with_names.Goals as goal

pub loop-role-preserved : goal.loop-role-preserved
loop-role-preserved g c =
    let start = state g.S.Store c.args.conn.now in
    let before = state g.S.Store c.loop-role.conn in
    let after = state g.S.Store c.person_role.new.conn in
    let i = c.loop-role.invariant in
    let here = c.in_ok-person.ensures in
    record {
      idle = here.idle;
      same = before_then start before after i.same here.same;
      people = rw c.in_ok-put.ensures (gathered (λ s. person_role s.world) start before after i.same i.idle here.same (λ s. IsNamed s.world) (λ s role person named. named.is)
          c.args.roles.now c.loop-role.role-index _ c.loop-role.people c.in_ok-person.person (search rules) (search rules) i.people here.found);
    }
