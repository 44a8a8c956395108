use Rattle.std.proofs.Common.{◌≡◌, ◌∙◌, ℕ, Option, ap}
use Rattle.std.proofs.lemmas.Result.{IfOk-weaker}
use Rattle.sqlite.specs.Held.{state}
use Rattle.tb_board.specs.World.{role_of}
use Rattle.tb_calls.specs.Roles.{people_for, people_on, role_on, where_some}
use Rattle.tb_lookup.specs.Reopening.{OfState}
use Rattle.tb_lookup.proofs.Standing.{stored_again}
use Rattle.tb_keeper.proofs.Looked.{nobody_number, person_number}
use Rattle.tb_keeper.proofs.members.find_people.Goals as goal

pub returns-in_default-clause-found : goal.returns-in_default-clause-found
returns-in_default-clause-found g c clean s stored =
    ap (λ (n : Option ℕ). where_some (role_on s.world c.args.board n) (people_on s.world c.args.board))
    (nobody_number s.world c.args.name.now c.in_ok-person.field-0 c.in_default.is (c.in_ok-person.ensures.found clean s stored))

pub returns-clause-found : goal.returns-clause-found
returns-clause-found g c =
    let old = state g.S.Store c.args.conn.now in
    let mid = state g.S.Store c.stored_person.new.conn in
    let new = state g.S.Store c.people_seen_by.new.conn in
    let board = c.args.board in
    IfOk-weaker c.people_seen_by.result (λ people. OfState mid new (λ s. people ≡ where_some (role_of s.world board c.in-Some.person.number) (people_on s.world board)))
    (λ people. OfState old new (λ s. people ≡ people_for s.world c.args.name.now board))
    (λ people found clean s stored.
    let first = c.in_ok-person.ensures.found (c.people_seen_by.ensures.same.clean clean) s stored in
    found clean s (stored_again s old mid stored c.in_ok-person.ensures.same c.in_ok-person.ensures.idle)
    ∙ ap (λ (n : Option ℕ). where_some (role_on s.world board n) (people_on s.world board)) (person_number s.world c.args.name.now c.in_ok-person.field-0 c.in-Some.person c.in-Some.is first))
    c.people_seen_by.ensures.found
