use Rattle.std.proofs.Common.{◌≡◌, ◌≤◌, true, arith, rules}
use Rattle.std.specs.List.{list_all}
use Rattle.sqlite.specs.Held.{state}
use Rattle.tb_task.specs.Limits.{most_people}
use Rattle.tb_keeper.specs.SoundRows.{is_reply_row}
use Rattle.tb_keeper.proofs.SoundRows.{people_held}
use Rattle.tb_keeper.proofs.sound_rows.hold_people.Goals as goal

pub returns-then-are_of_people-clause-people : goal.returns-then-are_of_people-clause-people
returns-then-are_of_people-clause-people g c =
    let few : c.in_ok-people.people ≤ most_people = omega (arith, c.if-people-le-MOST_PEOPLE.true) in
    let theirs : list_all (is_reply_row c.in_ok-people.people) c.in_ok-kept.kept ≡ true = first_of (cc, search rules) in
    people_held (state g.S.Store c.args.conn.now) (state g.S.Store c.people_rows.new.conn) (state g.S.Store c.kept_rows.new.conn) c.in_ok-people.people c.in_ok-rows.rows c.in_ok-kept.kept
    c.in_ok-rows.ensures.same c.in_ok-kept.ensures.same c.in_ok-rows.ensures.found c.in_ok-kept.ensures.found (rw c.as_slice.ensures at c.in_ok-people.ensures) few theirs
