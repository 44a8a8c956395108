-- Each command leaves a good world good.
use Rattle.std.proofs.Common.{◌≡◌, ℕ, ◌+◌, ◌==◌, ◌++◌, ◌<◌, ◌≤◌, ◌-◌, nat_le, nat_lt, Bool, true, false, ◌&&◌, ◌||◌, not, is_some, true≢false, List, [], ◌∷◌, Option, Some, None, Result, Ok, Err, length, find, refl, sym, ◌∙◌, ap, arith, subst, inl, inr, if◌then◌else◌, option_and_then}
use Rattle.std.proofs.lemmas.Bool.{cases_Bool, leb-false, ltb-false}
use Rattle.tb_task.specs.declared.incoming.Incoming.{Incoming}
use Rattle.tb_task.specs.declared.task.Task.{Task}
use Rattle.tb_task.specs.declared.checks.Field.{Field}
use Rattle.tb_task.specs.declared.checks.Field.TheVariants.{BadPair}
use Rattle.tb_task.specs.declared.edit.Edit.{Edit}
use Rattle.tb_task.specs.Checks.{fault_of, has_bad_text, has_bad_pair, has_bad_recurrence}
use Rattle.tb_board.specs.declared.board.Board.{Board}
use Rattle.tb_core.specs.declared.command.Answer.{Answer}
use Rattle.tb_core.specs.declared.command.Answer.TheVariants as Answers
use Rattle.tb_core.specs.declared.command.BoardAnswer.{BoardAnswer}
use Rattle.tb_core.specs.declared.look.Seen.{Seen}
use Rattle.tb_board.specs.declared.world.Person.{Person}
use Rattle.tb_core.specs.declared.command.Command.TheVariants as Commands
use Rattle.tb_core.specs.declared.command.BoardCommand.{BoardCommand}
use Rattle.tb_core.specs.declared.command.BoardCommand.TheVariants.{Add, OnTask, Modify, Depend, Undepend, SetAhead, Retitle, Sweep, Import}
use Rattle.tb_core.specs.declared.command.Import.TheVariants.{Json, Todo}
use Rattle.tb_core.specs.declared.command.AnswerDetail.{AnswerDetail}
use Rattle.tb_core.specs.declared.command.AnswerDetail.TheVariants.{Added, Changed, TodoImported, Swept}
use Rattle.tb_core.specs.declared.refusal.Refusal.{Refusal}
use Rattle.tb_core.specs.declared.refusal.Refusal.TheVariants.{NoTask, UuidTaken, Full, WrongStatus, TemplateFixed, NotAllowed, NoPerson, LastOwner, NameTaken, Cycle}
use Rattle.tb_board.specs.declared.world.Role.{Role}
use Rattle.tb_board.specs.declared.world.Role.TheVariants.{Owner}
use Rattle.tb_board.specs.declared.world.World.{World}
use Rattle.tb_core.specs.declared.action.Action.{Action}
use Rattle.tb_core.specs.declared.action.Action.TheVariants.{Done, Delete, Reopen, Start, Stop, Annotate, Denotate}
use Rattle.tb_core.specs.Action.{acted, action_fault, action_refusals, of_task, takes}
use Rattle.tb_core.specs.Edits.{modified}
use Rattle.tb_core.specs.Modify.{is_fixed, is_misplaced, modify_fault, modify_refusals}
use Rattle.tb_core.specs.Linking.{closes_walk, depend_refusals, is_open_task, lacks_either, linked, undepend_refusals, unlinked}
use Rattle.tb_core.specs.ImportTodo.{first_bad, import_todo_refusals, imported, new_tasks}
use Rattle.tb_core.proofs.GoodImports.{good-new, plain_all}
use Rattle.tb_core.proofs.GoodLinks.{good-linked, good-unlinked}
use Rattle.tb_core.specs.Add.{add_fault, add_refusals, entered, entered_id, first_fault, is_full, is_linked, is_misread}
use Rattle.tb_board.specs.Board.{lacks_depends, is_on, wake, with_task}
use Rattle.tb_board.specs.Tasks.{has_id}
use Rattle.tb_core.specs.Allowed.{allows}
use Rattle.tb_core.specs.Apply.{answered, applied, board_for, board_taken, decided, if_allowed, outcome, own_for, person_for, role_answer, role_given, role_refusals, seen_of, seen_with, take_refusals, taken, taking_role, with_role}
use Rattle.tb_board.specs.Changing.{with_ahead, with_title}
use Rattle.tb_board.specs.First.{change_first}
use Rattle.tb_board.specs.Statuses.{is_open}
use Rattle.tb_board.specs.Good.{has_template_form, IsGood, IsSound}
use Rattle.tb_core.specs.GoodWorld.{HasOwner, IsGoodWorld}
use Rattle.tb_core.specs.GoodLaws.{KeepsGood}
use Rattle.tb_board.specs.Numbers.{free_id}
use Rattle.tb_core.specs.Refusals.{bad_task, least, unless_refused, where_holds}
use Rattle.tb_core.specs.Outcomes.{given}
use Rattle.tb_core.specs.Keys.{key_given, key_refusals, own_key, own_refusals, with_key_of}
use Rattle.tb_core.specs.People.{board_refusals, new_board, new_person, person_refusals, with_new_board, with_person}
use Rattle.tb_core.specs.Owners.{leaves_none, person_number}
use Rattle.tb_board.specs.World.{find_board, has_number, is_owner, number_of, owners, role_of}
use Rattle.std.specs.Prelude.{IfOk}
use Rattle.tb_import.specs.declared.imported.ImportCounts.{ImportCounts}
use Rattle.tb_import.specs.declared.refusal.ImportRefusal.{ImportRefusal}
use Rattle.tb_import.specs.Entering.{with_all, with_new}
use Rattle.tb_import.specs.Import.{board_after, counts_after, with_masks}
use Rattle.tb_import.specs.News as import_new
use Rattle.tb_import.specs.Refusal as import
use Rattle.tb_import.specs.Refusal.{import_refusals, judged_import}
use Rattle.tb_import.proofs.Keeping.{import_keeps_good}
use Rattle.tb_core.specs.ImportJson.{told_of}
use Rattle.tb_sweep.specs.Sweeping.{sweep}
use Rattle.tb_sweep.proofs.Adding.{number-sweep}
use Rattle.tb_sweep.proofs.Keeping.{sweep_kept}
use Rattle.tb_core.proofs.GoodPeople.{good-key, good-new_board, good-person, good-role, number_in}
use Rattle.tb_core.proofs.GoodRoles.{owner_leaves}
use Rattle.tb_board.proofs.Fresh.{fresh}
use Rattle.tb_core.proofs.GoodWorlds.{all-found, good-title, good-with_board, with_board}
use Rattle.tb_board.specs.Instances.{has_template}
use Rattle.tb_board.proofs.Runs.{runs-plain}
use Rattle.tb_board.proofs.Goodness.{good-ahead, good-change, good-push, good-wake, Keeps}
use Rattle.tb_core.proofs.Sound.{sound_acted}
use Rattle.tb_core.proofs.SoundEdits.{keeps_modified, recur_unnamed, sound_modified}
use Rattle.tb_board.proofs.Worlds.{number_found}

-- where none is the least, none holds
none_least : (o : Option Refusal) (rs : List (Option Refusal)) → least (o ∷ rs) ≡ None → (o ≡ None) × (least rs ≡ None)
none_least None rs h = (refl, h)
none_least (Some r) rs h = absurd (cc)

none_holds : (r : Refusal) (holds : Bool) → where_holds r holds ≡ None → holds ≡ false
none_holds r true h = absurd (cc)
none_holds r false h = refl

no_fault : (o : Option Field) → bad_task o ≡ None → o ≡ None
no_fault None h = refl
no_fault (Some f) h = absurd (cc)

first_none : (o : Option Field) (linked : Bool) → first_fault o linked ≡ None → o ≡ None
first_none None linked h = refl
first_none (Some f) linked h = h

-- the identifier of a task that enters is new
new_id : (b : Board) (named : Bool) (id free : ℕ) → (named && is_on b id) ≡ false → is_on b free ≡ false → is_on b (if named then id else free) ≡ false
new_id b true id free given made = given
new_id b false id free given made = made

taken_entered : (b : Board) (i : Incoming) (m : ℕ) → fault_of (entered b i m) ≡ fault_of i.task
unfolding fault_of has_bad_text has_bad_pair has_bad_recurrence
taken_entered b i m = refl

-- a task that is added is as a reader leaves it
first_well : (o : Option Field) (wrong : Bool) → first_fault o wrong ≡ None → wrong ≡ false
first_well None false h = refl
first_well None true h = absurd (cc)
first_well (Some f) wrong h = absurd (cc)

or_second : (p q : Bool) → (p || q) ≡ false → q ≡ false
or_second true q h = absurd (true≢false h)
or_second false q h = h

not_false : (p : Bool) → not p ≡ false → p ≡ true
not_false true h = refl
not_false false h = absurd (true≢false h)

or_first : (p q : Bool) → (p || q) ≡ false → p ≡ false
or_first true q h = absurd (true≢false h)
or_first false q h = refl

is_none : (o : Option ℕ) → is_some o ≡ false → o ≡ None
is_none None h = refl
is_none (Some x) h = absurd (true≢false h)

read_well : (i : Incoming) → add_fault i ≡ None → is_misread i.task ≡ false
read_well i h = or_second (is_linked i) (is_misread i.task) (first_well (fault_of i.task) (is_linked i || is_misread i.task) h)

sound_entered : (b : Board) (i : Incoming) (m : ℕ) → add_fault i ≡ None → IsSound (entered b i m)
sound_entered b i m h = record {
  taken = taken_entered b i m ∙ first_none (fault_of i.task) (is_linked i || is_misread i.task) h;
  template = not_false (has_template_form i.task) (or_second (is_some i.task.parent) (not (has_template_form i.task)) (read_well i h));
}

no_parent : (i : Incoming) → add_fault i ≡ None → i.task.parent ≡ None
no_parent i h = is_none i.task.parent (or_first (is_some i.task.parent) (not (has_template_form i.task)) (read_well i h))

good-add : (b : Board) (i : Incoming) (m : ℕ) → IsGood b → least (add_refusals b i) ≡ None → IsGood (with_task b (entered b i m))
good-add b i m good h =
    let depends = none_least (where_holds NoTask (lacks_depends b i.task.depends)) _ h in
    let taken = none_least (where_holds UuidTaken (i.named && is_on b i.task.id)) _ depends.1 in
    let fault = none_least (bad_task (add_fault i)) _ taken.1 in
    let full = none_least (where_holds Full (is_full b)) [] fault.1 in
    let parent = no_parent i (no_fault (add_fault i) fault.0) in
    good-push b (entered b i m) good
    (leb-false 10000 (length b.tasks) (none_holds Full (is_full b) full.0))
    (new_id b i.named i.task.id (free_id b) (none_holds UuidTaken (i.named && is_on b i.task.id) taken.0) (fresh b))
    (sound_entered b i m (no_fault (add_fault i) fault.0))
    (none_holds NoTask (lacks_depends b i.task.depends) depends.0)
    (runs-plain b (entered b i m) parent good.runs)
    (ap (has_template b) parent)

keeps_acted : (m : ℕ) (a : Action) → Keeps (acted m a)
keeps_acted m Done = record { id = λ t. refl; depends = λ t. refl; links = record { parent = λ t. refl; imask = λ t. refl; template = λ t. refl } }
keeps_acted m Delete = record { id = λ t. refl; depends = λ t. refl; links = record { parent = λ t. refl; imask = λ t. refl; template = λ t. refl } }
keeps_acted m Reopen = record { id = λ t. refl; depends = λ t. refl; links = record { parent = λ t. refl; imask = λ t. refl; template = λ t. refl } }
keeps_acted m Start = record { id = λ t. refl; depends = λ t. refl; links = record { parent = λ t. refl; imask = λ t. refl; template = λ t. refl } }
keeps_acted m Stop = record { id = λ t. refl; depends = λ t. refl; links = record { parent = λ t. refl; imask = λ t. refl; template = λ t. refl } }
keeps_acted m (Annotate text) = record { id = λ t. refl; depends = λ t. refl; links = record { parent = λ t. refl; imask = λ t. refl; template = λ t. refl } }
keeps_acted m (Denotate text) = record { id = λ t. refl; depends = λ t. refl; links = record { parent = λ t. refl; imask = λ t. refl; template = λ t. refl } }

good_at : (b : Board) (id : ℕ) (a : Action) (m : ℕ) (o : Option Task) → find (has_id id) b.tasks ≡ o → of_task (takes a) o ≡ true → action_fault a ≡ None → IsGood b
    → IsGood (record b { tasks = change_first (has_id id) (acted m a) b.tasks })
good_at b id a m None found taken fault good = absurd (true≢false (sym taken))
good_at b id a m (Some x) found taken fault good = good-change b (has_id id) (acted m a) x (keeps_acted m a) found (λ sound. sound_acted m a x taken fault sound) good

good-action : (b : Board) (id : ℕ) (a : Action) (m : ℕ) → IsGood b → least (action_refusals b id a) ≡ None
    → IsGood (record b { tasks = change_first (has_id id) (acted m a) b.tasks })
good-action b id a m good h =
    let there = none_least (where_holds NoTask (not (is_on b id))) _ h in
    let taken = none_least (where_holds WrongStatus (not (of_task (takes a) (find (has_id id) b.tasks)))) _ there.1 in
    let fault = none_least (bad_task (action_fault a)) _ taken.1 in
    good_at b id a m (find (has_id id) b.tasks) refl (not_false _ (none_holds WrongStatus _ taken.0)) (no_fault (action_fault a) fault.0) good

-- edits without a fault of their own
well_placed : (c : Bool) (o : Option Field) → (if c then Some BadPair else o) ≡ None → (c ≡ false) × (o ≡ None)
well_placed true o h = absurd (cc)
well_placed false o h = (refl, h)

good_modified_at : (b : Board) (id : ℕ) (es : List Edit) (m : ℕ) (o : Option Task) → find (has_id id) b.tasks ≡ o → of_task (λ t. is_open t.status) o ≡ true
    → option_and_then (modify_fault m es) o ≡ None → of_task (is_fixed es) o ≡ false → IsGood b → IsGood (record b { tasks = change_first (has_id id) (modified m es) b.tasks })
good_modified_at b id es m None found standing fault free good = absurd (true≢false (sym standing))
good_modified_at b id es m (Some x) found standing fault free good =
    let well = well_placed (is_misplaced es x) (fault_of (modified m es x)) fault in
    good-change b (has_id id) (modified m es) x (keeps_modified m es (recur_unnamed es x well.0 free)) found (λ sound. sound_modified m es x well.0 well.1 free sound) good

good-modify : (b : Board) (id : ℕ) (es : List Edit) (m : ℕ) → IsGood b → least (modify_refusals b id es m) ≡ None
    → IsGood (record b { tasks = change_first (has_id id) (modified m es) b.tasks })
good-modify b id es m good h =
    let o = find (has_id id) b.tasks in
    let there = none_least (where_holds NoTask (not (is_on b id))) _ h in
    let standing = none_least (where_holds WrongStatus (not (of_task (λ t. is_open t.status) o))) _ there.1 in
    let fault = none_least (bad_task (option_and_then (modify_fault m es) o)) _ standing.1 in
    let free = none_least (where_holds TemplateFixed (of_task (is_fixed es) o)) [] fault.1 in
    good_modified_at b id es m o refl (not_false _ (none_holds WrongStatus _ standing.0)) (no_fault _ fault.0) (none_holds TemplateFixed _ free.0) good

linked_at : (b : Board) (id on m : ℕ) (o : Option Task) → find (has_id id) b.tasks ≡ o → of_task is_open_task o ≡ true → lacks_either b id on ≡ false → closes_walk b id on ≡ false
    → IsGood b → IsGood (record b { tasks = change_first (has_id id) (linked m on) b.tasks })
linked_at b id on m None found standing there none good = absurd (true≢false (sym standing))
linked_at b id on m (Some x) found standing there none good = good-linked b id on m x found (other_there (not (is_on b id)) (not (is_on b on)) there) none good
  where
    other_there : (p q : Bool) → (p || q) ≡ false → q ≡ false
    other_there true q h = absurd (true≢false h)
    other_there false q h = h

good-depend : (b : Board) (id on m : ℕ) → IsGood b → least (depend_refusals b id on) ≡ None → IsGood (record b { tasks = change_first (has_id id) (linked m on) b.tasks })
good-depend b id on m good h =
    let there = none_least (where_holds NoTask (lacks_either b id on)) _ h in
    let standing = none_least (where_holds WrongStatus (not (of_task is_open_task (find (has_id id) b.tasks)))) _ there.1 in
    let walks = none_least (where_holds Cycle (closes_walk b id on)) [] standing.1 in
    linked_at b id on m (find (has_id id) b.tasks) refl (not_false _ (none_holds WrongStatus _ standing.0)) (none_holds NoTask _ there.0) (none_holds Cycle _ walks.0) good

unlinked_at : (b : Board) (id on m : ℕ) (o : Option Task) → find (has_id id) b.tasks ≡ o → of_task is_open_task o ≡ true → IsGood b
    → IsGood (record b { tasks = change_first (has_id id) (unlinked m on) b.tasks })
unlinked_at b id on m None found standing good = absurd (true≢false (sym standing))
unlinked_at b id on m (Some x) found standing good = good-unlinked b id on m x found good

good-undepend : (b : Board) (id on m : ℕ) → IsGood b → least (undepend_refusals b id on) ≡ None → IsGood (record b { tasks = change_first (has_id id) (unlinked m on) b.tasks })
good-undepend b id on m good h =
    let there = none_least (where_holds NoTask (lacks_either b id on)) _ h in
    let standing = none_least (where_holds WrongStatus (not (of_task is_open_task (find (has_id id) b.tasks)))) _ there.1 in
    unlinked_at b id on m (find (has_id id) b.tasks) refl (not_false _ (none_holds WrongStatus _ standing.0)) good

good-import : (b : Board) (ts : List Task) → IsGood b → least (import_todo_refusals b ts) ≡ None → IsGood (imported b ts)
good-import b ts good h =
    let plain = none_least (first_bad 0 ts) _ h in
    let full = none_least (where_holds Full (nat_lt 10000 (length b.tasks + length (new_tasks b ts)))) [] plain.1 in
    good-new b ts good (plain_all 0 ts plain.0) (ltb-false 10000 (length b.tasks + length (new_tasks b ts)) (none_holds Full _ full.0))

-- a board that may stand in the place of x
record Follows (x b : Board) : Type 0 where
  number : b.number ≡ x.number
  good : IsGood b

-- where a world is good unless the command is refused
kept : (m : ℕ) (w : World) (x : Board) (o : Option Refusal) (b : Board) (detail : AnswerDetail) → IsGoodWorld w → find (has_number x.number) w.boards ≡ Some x → (o ≡ None → Follows x b)
    → IsGoodWorld (applied w (answered m (unless_refused o b detail))).world
kept m w x (Some r) b detail good found later = good
kept m w x None b detail good found later =
    good-with_board w x (sweep b m) good found (number-sweep b m ∙ (later refl).number) (sweep_kept b m (later refl).good)

number_all : (first : Board) (new : List Incoming) (b : Board) (is : List Incoming) → (with_all first new b is).number ≡ b.number
number_all first new b [] = refl
number_all first new b (i ∷ is) = number_all first new (with_new first new b i) is

import_number : (b : Board) (is : List Incoming) (o : Option ImportRefusal) → IfOk (import.unless_refused o (board_after b is) (counts_after b is)) (λ after. after.0.number ≡ b.number)
import_number b is None = number_all b (import_new.new_tasks b is) (with_masks b (import_new.new_tasks b is)) (import_new.new_tasks b is)
import_number b is (Some refusal) = tt

both_kept : (b : Board) (r : Result (Board × ImportCounts) ImportRefusal) → IfOk r (λ after. after.0.number ≡ b.number) → IfOk r (λ after. IsGood after.0) → IfOk r (λ after. Follows b after.0)
both_kept b (Ok after) number good = record { number = number; good = good }
both_kept b (Err refusal) number good = tt

import_kept : (b : Board) (is : List Incoming) → IsGood b → IfOk (judged_import b is) (λ after. Follows b after.0)
import_kept b is good = both_kept b (judged_import b is) (import_number b is (import.least (import_refusals b is))) (import_keeps_good b is good)

kept_import : (m : ℕ) (w : World) (x b : Board) (r : Result (Board × ImportCounts) ImportRefusal) → IsGoodWorld w → find (has_number x.number) w.boards ≡ Some x
    → b.number ≡ x.number → IfOk r (λ after. Follows b after.0) → IsGoodWorld (applied w (answered m (told_of r))).world
kept_import m w x b (Err refusal) good found number later = good
kept_import m w x b (Ok after) good found number later =
    good-with_board w x (sweep after.0 m) good found (number-sweep after.0 m ∙ later.number ∙ number) (sweep_kept after.0 m later.good)

kept_outcome : (w : World) (x : Board) (c : BoardCommand) (m : ℕ) → IsGoodWorld w → find (has_number x.number) w.boards ≡ Some x → IsGood x
    → IsGoodWorld (applied w (outcome x c m)).world
kept_outcome w x (Add i) m good found is_good =
    kept m w x (least (add_refusals (wake x m) i)) (with_task (wake x m) (entered (wake x m) i m)) (Added (entered_id (wake x m) i) i.dropped) good found
    (λ none. record { number = refl; good = good-add (wake x m) i m (good-wake x m is_good) none })
kept_outcome w x (OnTask id a) m good found is_good =
    kept m w x (least (action_refusals (wake x m) id a)) (record (wake x m) { tasks = change_first (has_id id) (acted m a) (wake x m).tasks }) (Changed id) good found
    (λ none. record { number = refl; good = good-action (wake x m) id a m (good-wake x m is_good) none })
kept_outcome w x (Modify id es) m good found is_good =
    kept m w x (least (modify_refusals (wake x m) id es m)) (record (wake x m) { tasks = change_first (has_id id) (modified m es) (wake x m).tasks }) (Changed id) good found
    (λ none. record { number = refl; good = good-modify (wake x m) id es m (good-wake x m is_good) none })
kept_outcome w x (Depend id on) m good found is_good =
    kept m w x (least (depend_refusals (wake x m) id on)) (record (wake x m) { tasks = change_first (has_id id) (linked m on) (wake x m).tasks }) (Changed id) good found
    (λ none. record { number = refl; good = good-depend (wake x m) id on m (good-wake x m is_good) none })
kept_outcome w x (Undepend id on) m good found is_good =
    kept m w x (least (undepend_refusals (wake x m) id on)) (record (wake x m) { tasks = change_first (has_id id) (unlinked m on) (wake x m).tasks }) (Changed id) good found
    (λ none. record { number = refl; good = good-undepend (wake x m) id on m (good-wake x m is_good) none })
kept_outcome w x (SetAhead ahead) m good found is_good =
    kept m w x None (with_ahead ahead (wake x m)) Swept good found (λ none. record { number = refl; good = good-ahead (wake x m) ahead (good-wake x m is_good) })
kept_outcome w x (Retitle title) m good found is_good =
    kept m w x None (with_title title (wake x m)) Swept good found (λ none. record { number = refl; good = good-title (wake x m) title (good-wake x m is_good) })
kept_outcome w x Sweep m good found is_good = kept m w x None (wake x m) Swept good found (λ none. record { number = refl; good = good-wake x m is_good })
kept_outcome w x (Import (Json is)) m good found is_good =
    kept_import m w x (wake x m) (judged_import (wake x m) is) good found refl (import_kept (wake x m) is (good-wake x m is_good))
kept_outcome w x (Import (Todo ts)) m good found is_good =
    kept m w x (least (import_todo_refusals (wake x m) ts)) (imported (wake x m) ts)
    (TodoImported (length ts - length (new_tasks (wake x m) ts)) (length (new_tasks (wake x m) ts))) good found
    (λ none. record { number = refl; good = good-import (wake x m) ts (good-wake x m is_good) none })

kept_allowed : (w : World) (allowed : Bool) (r : Result (Board × BoardAnswer) Refusal) → IsGoodWorld w → IsGoodWorld (applied w r).world
    → IsGoodWorld (applied w (if_allowed allowed r)).world
kept_allowed w true r good later = later
kept_allowed w false r good later = good

kept_seen : (w : World) (caller n : ℕ) (role : Option Role) (o : Option Board) (c : BoardCommand) (m : ℕ) → IsGoodWorld w → find_board w n ≡ o
    → IsGoodWorld (applied w (decided (Some caller) (seen_with role o) c m)).world
kept_seen w caller n None o c m good is = good
kept_seen w caller n (Some role) None c m good is = good
kept_seen w caller n (Some role) (Some x) c m good is =
    let number : x.number ≡ n = number_found n w.boards x is in
    let found : find (has_number x.number) w.boards ≡ Some x = subst (λ k. find (has_number k) w.boards ≡ Some x) (sym number) is in
    kept_allowed w (allows role c) (outcome x c m) good
    (kept_outcome w x c m good found (all-found IsGood (has_number n) w.boards x good.good is))

kept_decided : (w : World) (caller n : Option ℕ) (c : BoardCommand) (m : ℕ) → IsGoodWorld w → IsGoodWorld (applied w (decided caller (board_for w caller n) c m)).world
kept_decided w None n c m good = good
kept_decided w (Some caller) None c m good = good
kept_decided w (Some caller) (Some n) c m good = kept_seen w caller n (role_of w n caller) (find_board w n) c m good refl

kept_given : (o : Option Refusal) (w v : World) (a : Answer) → IsGoodWorld w → (o ≡ None → IsGoodWorld v) → IsGoodWorld (given o w v a).world
kept_given None w v a good later = later refl
kept_given (Some refusal) w v a good later = good

-- the role of a person who is there, on a board that is swept
good_role_at : (w : World) (x : Board) (n k : ℕ) (role : Option Role) (m : ℕ) → IsGoodWorld w → find (has_number n) w.boards ≡ Some x → x.number ≡ n → 1 ≤ k → k ≤ length w.people
    → leaves_none (Some (record { number = k; role = role_of w n k })) role (owners w n) ≡ false → IsGoodWorld (with_role w (sweep x m) k role)
good_role_at w x n k role m good is number from to stays =
    let found : find (has_number x.number) w.boards ≡ Some x = subst (λ i. find (has_number i) w.boards ≡ Some x) (sym number) is in
    let swept = good-with_board w x (sweep x m) good found (number-sweep x m) (sweep_kept x m (all-found IsGood (has_number n) w.boards x good.good is)) in
    let owner : HasOwner w (sweep x m) = rw (number-sweep x m) (all-found (HasOwner w) (has_number n) w.boards x good.owned is) in
    let stays' = subst (λ i. leaves_none (Some (record { number = k; role = role_of w i k })) role (owners w i) ≡ false) (sym (number-sweep x m ∙ number)) stays in
    good-role (with_board w (sweep x m)) (sweep x m).number k role swept owner from to stays'

kept_role : (w : World) (seen : Seen) (x : Board) (own : Role) (n : ℕ) (person : Option ℕ) (role : Option Role) (m : ℕ) → IsGoodWorld w → find (has_number n) w.boards ≡ Some x
    → seen.other ≡ person_for w (Some n) person → seen.owners ≡ owners w n → ((k : ℕ) → person ≡ Some k → (1 ≤ k) × (k ≤ length w.people))
    → least (role_refusals seen (record { board = x; role = own }) role) ≡ None → IsGoodWorld (with_role w (sweep x m) (person_number seen.other) role)
kept_role w seen x own n None role m good is other owners' within h =
    let allowed = none_least (where_holds NotAllowed (not (is_owner own))) _ h in
    let missing = none_least (where_holds NoPerson (not (is_some seen.other))) _ allowed.1 in
    let none : not (is_some seen.other) ≡ false = none_holds NoPerson (not (is_some seen.other)) missing.0 in
    let wrong : true ≡ false = rw other at none in
    absurd (true≢false wrong)
kept_role w seen x own n (Some k) role m good is other owners' within h =
    let allowed = none_least (where_holds NotAllowed (not (is_owner own))) _ h in
    let missing = none_least (where_holds NoPerson (not (is_some seen.other))) _ allowed.1 in
    let last = none_least (where_holds LastOwner (leaves_none seen.other role seen.owners)) [] missing.1 in
    let stays : leaves_none seen.other role seen.owners ≡ false = none_holds LastOwner (leaves_none seen.other role seen.owners) last.0 in
    let bounds = within k refl in
    let number : person_number seen.other ≡ k = ap person_number other in
    rw number (good_role_at w x n k role m good is (number_found n w.boards x is) bounds.0 bounds.1 (rw (other, owners') at stays))

kept_role_seen : (w : World) (seen : Seen) (caller n : ℕ) (own : Option Role) (o : Option Board) (person : Option ℕ) (role : Option Role) (m : ℕ) → IsGoodWorld w → find_board w n ≡ o
    → seen.other ≡ person_for w (Some n) person → seen.owners ≡ owners w n → ((k : ℕ) → person ≡ Some k → (1 ≤ k) × (k ≤ length w.people))
    → IsGoodWorld (role_given w seen (Some caller) (seen_with own o) role m).world
kept_role_seen w seen caller n None o person role m good is other owners' within = good
kept_role_seen w seen caller n (Some own) None person role m good is other owners' within = good
kept_role_seen w seen caller n (Some own) (Some x) person role m good is other owners' within =
    kept_given (least (role_refusals seen (record { board = x; role = own }) role)) w (with_role w (sweep x m) (person_number seen.other) role) (role_answer x m) good
    (kept_role w seen x own n person role m good is other owners' within)

kept_role_by : (w : World) (seen : Seen) (caller : Option ℕ) (n : ℕ) (person : Option ℕ) (role : Option Role) (m : ℕ) → IsGoodWorld w
    → seen.other ≡ person_for w (Some n) person → seen.owners ≡ owners w n → ((k : ℕ) → person ≡ Some k → (1 ≤ k) × (k ≤ length w.people))
    → IsGoodWorld (role_given w seen caller (board_for w caller (Some n)) role m).world
kept_role_by w seen None n person role m good other owners' within = good
kept_role_by w seen (Some caller) n person role m good other owners' within =
    kept_role_seen w seen caller n (role_of w n caller) (find_board w n) person role m good refl other owners' within

nobody : (w : World) (o : Option ℕ) → is_some (person_for w None o) ≡ false → o ≡ None
nobody w None h = refl
nobody w (Some k) h = absurd (true≢false h)

kept_person : (w : World) (seen : Seen) (caller : Option ℕ) (p k : List ℕ) → IsGoodWorld w → seen.people ≡ length w.people → seen.other ≡ person_for w None (number_of w p)
    → IsGoodWorld (new_person w seen caller p k).world
kept_person w seen None p k good people other = good
kept_person w seen (Some caller) p k good people other =
    kept_given (least (person_refusals seen caller)) w (with_person w p k) (Answers.OfPerson p) good
    (λ h.
    let allowed = none_least (where_holds NotAllowed (not (caller == 1))) _ h in
    let full = none_least (where_holds Full (nat_le 10000 seen.people)) _ allowed.1 in
    let taken = none_least (where_holds NameTaken (is_some seen.other)) [] full.1 in
    let room : seen.people < 10000 = leb-false 10000 seen.people (none_holds Full (nat_le 10000 seen.people) full.0) in
    let free : is_some seen.other ≡ false = none_holds NameTaken (is_some seen.other) taken.0 in
    good-person w p k good (omega (arith, room, people)) (nobody w (number_of w p) (rw other at free)))

kept_board : (w : World) (seen : Seen) (caller : Option ℕ) (title : List ℕ) → IsGoodWorld w → seen.boards ≡ length w.boards
    → ((k : ℕ) → caller ≡ Some k → (1 ≤ k) × (k ≤ length w.people)) → IsGoodWorld (new_board w seen caller title).world
kept_board w seen None title good boards within = good
kept_board w seen (Some caller) title good boards within =
    kept_given (least (board_refusals seen)) w (with_new_board w (seen.boards + 1) caller title) (Answers.NewBoard (seen.boards + 1)) good
    (λ h.
    let full = none_least (where_holds Full (nat_le 10000 seen.boards)) [] h in
    let room : seen.boards < 10000 = leb-false 10000 seen.boards (none_holds Full (nat_le 10000 seen.boards) full.0) in
    let bounds = within caller refl in
    rw boards (good-new_board w caller title good (omega (arith, room, boards)) bounds.0 bounds.1))

kept_own : (w : World) (own : Option Person) (old new : List ℕ) → IsGoodWorld w → IsGoodWorld (own_key w own old new).world
kept_own w None old new good = good
kept_own w (Some p) old new good =
    kept_given (least (own_refusals p old)) w (with_key_of w p.name (Some new)) (Answers.OfPerson p.name) good (λ none. good-key w p.name (Some new) good)

kept_key : (w : World) (seen : Seen) (caller : Option ℕ) (name : List ℕ) (key : Option (List ℕ)) → IsGoodWorld w → IsGoodWorld (key_given w seen caller name key).world
kept_key w seen None name key good = good
kept_key w seen (Some caller) name key good =
    kept_given (least (key_refusals seen caller)) w (with_key_of w name key) (Answers.OfPerson name) good (λ none. good-key w name key good)

kept_taken : (w : World) (caller n : ℕ) (own : Option Role) (o : Option Board) (m : ℕ) → IsGoodWorld w → find_board w n ≡ o → 1 ≤ caller → caller ≤ length w.people
    → IsGoodWorld (taken w (Some caller) (seen_with own o) m).world
kept_taken w caller n None o m good is from to = good
kept_taken w caller n (Some own) None m good is from to = good
kept_taken w caller n (Some own) (Some x) m good is from to =
    kept_given (least (take_refusals caller)) w (with_role w (sweep x m) caller (Some Owner)) (role_answer x m) good
    (λ none. good_role_at w x n caller (Some Owner) m good is (number_found n w.boards x is) from to (owner_leaves (role_of w n caller) caller (owners w n)))

kept_taken_by : (w : World) (caller : Option ℕ) (n m : ℕ) → IsGoodWorld w → ((k : ℕ) → caller ≡ Some k → (1 ≤ k) × (k ≤ length w.people))
    → IsGoodWorld (taken w caller (board_taken w caller n) m).world
kept_taken_by w None n m good within = good
kept_taken_by w (Some caller) n m good within =
    let bounds = within caller refl in
    kept_taken w caller n (taking_role w n caller) (find_board w n) m good refl bounds.0 bounds.1

pub stays_good : KeepsGood
stays_good w name (Commands.NewPerson p k) m good = kept_person w (seen_of w name (Commands.NewPerson p k)) (number_of w name) p k good refl refl
stays_good w name (Commands.NewBoard title) m good = kept_board w (seen_of w name (Commands.NewBoard title)) (number_of w name) title good refl (number_in w name)
stays_good w name (Commands.OwnKey old new) m good = kept_own w (own_for w name (Commands.OwnKey old new)) old new good
stays_good w name (Commands.SetKey other key) m good = kept_key w (seen_of w name (Commands.SetKey other key)) (number_of w name) other key good
stays_good w name (Commands.Take n) m good = kept_taken_by w (number_of w name) n m good (number_in w name)
stays_good w name (Commands.SetRole n other role) m good =
    kept_role_by w (seen_of w name (Commands.SetRole n other role)) (number_of w name) n (number_of w other) role m good refl refl (number_in w other)
stays_good w name (Commands.OnBoard n c) m good = kept_decided w (number_of w name) (Some n) c m good
