use Rattle.std.proofs.Common.{◌≡◌, filter}
use Rattle.std.specs.List.{filter_map}
use Rattle.std.proofs.lemmas.Result.{IfOk-weaker}
use Rattle.sqlite.specs.Held.{state}
use Rattle.tb_calls.specs.Roles.{is_on, people_on, person_role}
use Rattle.tb_lookup.specs.Reopening.{OfState}
use Rattle.tb_lookup.proofs.Gathered.{gathered_of}
use Rattle.tb_lookup.proofs.people_on.stored_people_on.Goals as goal

pub returns-clause-found : goal.returns-clause-found
returns-clause-found g c =
    let old = state g.S.Store c.args.conn.now in
    let mid = state g.S.Store c.roles_on.new.conn in
    let new = state g.S.Store c.with_names.new.conn in
    IfOk-weaker c.with_names.result (λ people. OfState mid new (λ s. people ≡ filter_map (person_role s.world) c.in_ok-roles.roles)) (λ people. OfState old new (λ s. people ≡ people_on s.world c.args.board))
    (λ people given. gathered_of (λ s. person_role s.world) old mid new c.in_ok-roles.ensures.same c.in_ok-roles.ensures.idle c.with_names.ensures.same (λ s. filter (is_on c.args.board) s.world.roles) c.in_ok-roles.roles people c.in_ok-roles.ensures.found given)
    (rw c.as_slice.ensures at c.with_names.ensures.found)
