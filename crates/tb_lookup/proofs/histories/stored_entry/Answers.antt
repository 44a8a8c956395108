use Rattle.std.proofs.Common.{◌≡◌, Some, refl, rules}
use Rattle.tb_deeds.specs.Kinds.{kind_of_number}
use Rattle.tb_lookup.proofs.ShownEntries.{read_back}
use Rattle.tb_lookup.proofs.histories.stored_entry.Goals as goal

pub returns-clause-found : goal.returns-clause-found
returns-clause-found g c clean s stored =
    let row = c.args.row.now in
    let moment : c.in-Some.moment ≡ row.moment = search rules in
    let what : kind_of_number row.what ≡ Some c.in-Some-of_number.what = search rules in
    read_back s row (record { member = c.in_ok-member.member; id = row.call; moment = c.in-Some.moment; what = c.in-Some-of_number.what; place = c.in_ok-place.place })
    (c.in_ok-member.ensures.found clean s stored) refl moment what c.in_ok-place.ensures
