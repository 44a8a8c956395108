use Rattle.std.proofs.Common.{◌≡◌, ◌∙◌, Some, ap, filter, rules}
use Rattle.std.specs.List.{filter_map}
use Rattle.std.proofs.lemmas.Result.{IfOk-weaker}
use Rattle.sqlite.specs.Held.{state}
use Rattle.tb_calls.specs.Roles.{board_role, boards_for, is_of}
use Rattle.tb_lookup.specs.Reopening.{OfState}
use Rattle.tb_lookup.proofs.Gathered.{gathered_of}
use Rattle.tb_lookup.proofs.boards_of.stored_boards_of.Goals as goal

pub returns-clause-found : goal.returns-clause-found
returns-clause-found g c =
    let old = state g.S.Store c.args.conn.now in
    let mid = state g.S.Store c.roles_of.new.conn in
    let new = state g.S.Store c.with_titles.new.conn in
    let person : c.in-Ok.person ≡ c.args.person = search rules in
    IfOk-weaker c.with_titles.result (λ boards. OfState mid new (λ s. boards ≡ filter_map (board_role s.world) c.in_ok-roles.roles)) (λ boards. OfState old new (λ s. boards ≡ boards_for s.world (Some c.args.person)))
    (λ boards given clean s stored.
    gathered_of (λ s. board_role s.world) old mid new c.in_ok-roles.ensures.same c.in_ok-roles.ensures.idle c.with_titles.ensures.same (λ s. filter (is_of c.in-Ok.person) s.world.roles) c.in_ok-roles.roles boards c.in_ok-roles.ensures.found given clean s stored
    ∙ ap (λ n. boards_for s.world (Some n)) person)
    (rw c.as_slice.ensures at c.with_titles.ensures.found)
