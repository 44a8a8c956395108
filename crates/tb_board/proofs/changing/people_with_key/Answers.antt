use Rattle.std.proofs.Common.{◌≡◌, sym, slice_index_or}
use Rattle.tb_board.specs.Changing.{with_key}
use Rattle.tb_board.specs.First.{IsFirst, IsNone}
use Rattle.tb_board.specs.World.{has_name}
use Rattle.tb_board.proofs.Places.{changed_there}
use Rattle.tb_board.proofs.changing.people_with_key.Goals as goal

pub returns-in_default : goal.returns-in_default
returns-in_default c =
    let none : IsNone (has_name c.args.name.now) c.args.people = rw c.as_slice.ensures at c.in_default.ensures.first in
    sym (none.changed (with_key c.args.key.now))

pub returns : goal.returns
returns c =
    let first : IsFirst (has_name c.args.name.now) c.args.people c.in-Some.place = rw c.as_slice.ensures at c.in-Some.ensures.first in
    let person = c.index-as_slice-place.result in
    let at : person ≡ slice_index_or c.args.people c.in-Some.place person = rw c.as_slice-2.ensures at c.index-as_slice-place.is in
    rw (c.set.ensures, c.in_ok-person.ensures) (changed_there _ (with_key c.args.key.now) c.args.people c.in-Some.place person first at)
