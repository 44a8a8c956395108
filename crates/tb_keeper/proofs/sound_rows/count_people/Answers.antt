use Rattle.std.proofs.Common.{◌≡◌, arith, length, rules}
use Rattle.tb_keeper.proofs.sound_rows.count_people.Goals as goal

pub returns-in-Ok : goal.returns-in-Ok
returns-in-Ok c =
    let count : length c.in-Ok.people ≡ c.len.result = first_of (search rules, grind arith) in
    (c.in-Ok.people, c.in-Ok.ensures, count)
