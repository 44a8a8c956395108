-- An import of lines leaves a good board good.
use Rattle.std.proofs.Common.{◌≡◌, ◌≤◌, ℕ, ◌+◌, ◌==◌, ◌||◌, Bool, true, false, not, is_some, List, [], ◌∷◌, ◌++◌, Option, Some, None, length, refl, sym, ap, arith, subst, inl, inr, append_assoc, true≢false, length-append, suc}
use Rattle.std.specs.List.{AllByRecursion, list_any}
use Rattle.std.proofs.lemmas.Bool.{cases_Bool, eqb-true}
use Rattle.std.proofs.lemmas.List.{append-nil}
use Rattle.tb_task.specs.declared.checks.Field.{Field}
use Rattle.tb_task.specs.declared.status.Status.{Status}
use Rattle.tb_task.specs.declared.status.Status.TheVariants.{Pending, Waiting, Recurring, Completed, Deleted}
use Rattle.tb_task.specs.declared.task.Task.{Task}
use Rattle.tb_task.specs.Checks.{fault_of, is_recurring}
use Rattle.tb_board.specs.declared.board.Board.{Board}
use Rattle.tb_board.specs.Board.{is_on, lacks_depends, with_task}
use Rattle.tb_board.specs.Tasks.{has_id}
use Rattle.tb_board.specs.Good.{IsGood, IsSound}
use Rattle.tb_board.specs.Instances.{has_template}
use Rattle.tb_board.proofs.Goodness.{good-push}
use Rattle.tb_board.proofs.Runs.{runs-plain}
use Rattle.tb_core.specs.declared.refusal.Refusal.{Refusal}
use Rattle.tb_core.specs.Add.{first_fault}
use Rattle.tb_core.specs.ImportTodo.{bad_at, first_bad, is_of_no_line, is_pending_or_completed, is_tied, line_fault, new_beside}

-- a task as lines make it, without a fault
pub record IsPlain (t : Task) : Type 0 where
  pub taken : fault_of t ≡ None
  pub standing : is_pending_or_completed t.status ≡ true
  pub recur : is_some t.recur ≡ false
  pub parent : t.parent ≡ None
  pub depends : t.depends ≡ []

first_none : (o : Option Field) (wrong : Bool) → first_fault o wrong ≡ None → (o ≡ None) × (wrong ≡ false)
first_none None false h = (refl, refl)
first_none None true h = absurd (cc)
first_none (Some f) wrong h = absurd (cc)

neither : (p q : Bool) → (p || q) ≡ false → (p ≡ false) × (q ≡ false)
neither true q h = absurd (true≢false h)
neither false q h = (refl, h)

not_false : (p : Bool) → not p ≡ false → p ≡ true
not_false true h = refl
not_false false h = absurd (true≢false h)

is_none : (o : Option ℕ) → is_some o ≡ false → o ≡ None
is_none None h = refl
is_none (Some x) h = absurd (true≢false h)

no_items : (ids : List ℕ) → not (length ids == 0) ≡ false → ids ≡ []
no_items [] h = refl
no_items (id ∷ ids) h = let none : suc (length ids) ≡ 0 = eqb-true (suc (length ids)) 0 (not_false (suc (length ids) == 0) h) in absurd (cc)

plain_of : (t : Task) → line_fault t ≡ None → IsPlain t
plain_of t h =
    let parts = first_none (fault_of t) (is_of_no_line t) h in
    let line = neither (not (is_pending_or_completed t.status)) (is_tied t) parts.1 in
    let depends = neither (is_some t.recur || is_some t.parent || is_some t.imask) (not (length t.depends == 0)) line.1 in
    let imask = neither (is_some t.recur || is_some t.parent) (is_some t.imask) depends.0 in
    let parent = neither (is_some t.recur) (is_some t.parent) imask.0 in
    record {
      taken = parts.0;
      standing = not_false (is_pending_or_completed t.status) line.0;
      recur = parent.0;
      parent = is_none t.parent parent.1;
      depends = no_items t.depends depends.1;
    }

none_bad : (at : ℕ) (o : Option Field) (later : Option Refusal) → bad_at at o later ≡ None → (o ≡ None) × (later ≡ None)
none_bad at None later h = (refl, h)
none_bad at (Some f) later h = absurd (cc)

pub plain_all : (at : ℕ) (ts : List Task) → first_bad at ts ≡ None → AllByRecursion IsPlain ts
plain_all at [] h = tt
plain_all at (t ∷ ts) h = let parts = none_bad at (line_fault t) (first_bad (at + 1) ts) h in (plain_of t parts.0, plain_all (at + 1) ts parts.1)

stays : (s : Status) → is_pending_or_completed s ≡ true → is_recurring s ≡ false
stays Pending h = refl
stays Waiting h = refl
stays Recurring h = absurd (true≢false (sym h))
stays Completed h = refl
stays Deleted h = refl

sound_plain : (t : Task) → IsPlain t → IsSound t
sound_plain t p = record { taken = p.taken; template = rw (p.recur, stays t.status p.standing) refl }

good_one : (b : Board) (t : Task) → IsGood b → length b.tasks + 1 ≤ 10000 → is_on b t.id ≡ false → IsPlain t → IsGood (with_task b t)
good_one b t good room alone p =
    good-push b t good (omega (arith, room)) alone (sound_plain t p) (ap (lacks_depends b) p.depends) (runs-plain b t p.parent good.runs) (ap (has_template b) p.parent)

-- the tasks that are new go last
pub good-new : (b : Board) (ts : List Task) → IsGood b → AllByRecursion IsPlain ts → length b.tasks + length (new_beside b.tasks ts) ≤ 10000
    → IsGood (record b { tasks = b.tasks ++ new_beside b.tasks ts })
good-new b [] good plain room = rw (append-nil b.tasks) good
good-new b (t ∷ ts) good plain room =
    elim (cases_Bool (list_any (has_id t.id) b.tasks)) [
      | inl known ↦ let room' : length b.tasks + length (new_beside b.tasks ts) ≤ 10000 = rw known at room in rw known (good-new b ts good plain.1 room')
      | inr fresh ↦
          let later = new_beside (b.tasks ++ t ∷ []) ts in
          let room' : length b.tasks + suc (length later) ≤ 10000 = rw fresh at room in
          let first = good_one b t good (omega (arith, room')) fresh plain.0 in
          let rest = good-new (with_task b t) ts first plain.1 (omega (arith, room', length-append b.tasks (t ∷ []))) in
          rw fresh (subst (λ us. IsGood (record b { tasks = us })) (append_assoc b.tasks (t ∷ []) later) rest)
    ]
