-- What adding and removing a link makes of a board.
use Rattle.std.proofs.Common.{◌≡◌, ℕ, true, false, Some, None, Ok, find, get_or, set, refl, sym, ◌∙◌, ap}
use Rattle.std.specs.BTreeSet.{replace_key}
use Rattle.std.specs.Ordering.{nat_cmp}
use Rattle.std.proofs.lemmas.List.{set-get_or}
use Rattle.tb_task.specs.declared.task.Task.{Task}
use Rattle.tb_board.specs.declared.board.Board.{Board}
use Rattle.tb_board.specs.Tasks.{has_id}
use Rattle.tb_board.proofs.Places.{changed_there}
use Rattle.tb_core.specs.declared.command.AnswerDetail.TheVariants.{Changed}
use Rattle.tb_core.specs.Linking.{closes_walk, depend_refusals, depends_on, IsPlaceToLink, judged_depend, judged_undepend, linked, undepend_refusals, unlinked}
use Rattle.tb_core.specs.Refusals.{least}

found_there : (b : Board) (id on place : ℕ) (t : Task) → IsPlaceToLink b id on place → t ≡ get_or b.tasks place t → find (has_id id) b.tasks ≡ Some t
found_there b id on place t taken is = taken.first.found t ∙ ap Some (sym is)

linked_there : (b : Board) (id on m place : ℕ) (t : Task) → IsPlaceToLink b id on place → t ≡ get_or b.tasks place t → closes_walk b id on ≡ false
    → judged_depend b id on m ≡ Ok (record b { tasks = set b.tasks place (linked m on t) }, Changed id)
linked_there b id on m place t taken is walks =
    let none : least (depend_refusals b id on) ≡ None = rw (taken.first.stands, taken.there, taken.standing, walks) refl in
    rw none (ap (λ ts. Ok (record b { tasks = ts }, Changed id)) (sym (changed_there (has_id id) (linked m on) b.tasks place t taken.first is)))

-- a link that is there already
pub linked_before : (b : Board) (id on m place : ℕ) (t : Task) → IsPlaceToLink b id on place → t ≡ get_or b.tasks place t → closes_walk b id on ≡ false → depends_on on t ≡ true
    → judged_depend b id on m ≡ Ok (b, Changed id)
linked_before b id on m place t taken is walks before =
    let same : linked m on t ≡ t = rw before refl in
    linked_there b id on m place t taken is walks
    ∙ ap (λ ts. Ok (record b { tasks = ts }, Changed id)) (ap (set b.tasks place) (same ∙ is) ∙ set-get_or b.tasks place t)

pub linked_now : (b : Board) (id on m place : ℕ) (t : Task) → IsPlaceToLink b id on place → t ≡ get_or b.tasks place t → closes_walk b id on ≡ false → depends_on on t ≡ false
    → judged_depend b id on m ≡ Ok (record b { tasks = set b.tasks place (record t { depends = replace_key nat_cmp t.depends on; modified = Some m }) }, Changed id)
linked_now b id on m place t taken is walks before =
    let more : linked m on t ≡ record t { depends = replace_key nat_cmp t.depends on; modified = Some m } = rw before refl in
    linked_there b id on m place t taken is walks ∙ ap (λ u. Ok (record b { tasks = set b.tasks place u }, Changed id)) more

pub unlinked_there : (b : Board) (id on m place : ℕ) (t : Task) → IsPlaceToLink b id on place → t ≡ get_or b.tasks place t → depends_on on t ≡ true
    → judged_undepend b id on m ≡ Ok (record b { tasks = set b.tasks place (unlinked m on t) }, Changed id)
unlinked_there b id on m place t taken is before =
    let none : least (undepend_refusals b id on) ≡ None = rw (taken.first.stands, taken.there, taken.standing, found_there b id on place t taken is, before) refl in
    rw none (ap (λ ts. Ok (record b { tasks = ts }, Changed id)) (sym (changed_there (has_id id) (unlinked m on) b.tasks place t taken.first is)))
