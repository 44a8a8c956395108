-- An import leaves a good board good.
use Rattle.std.proofs.Common.{◌≡◌, ℕ, ◌+◌, ◌==◌, nat_eq, nat_lt, not, Bool, true, false, true≢false, List, [], ◌∷◌, ◌++◌, Option, Some, None, IfOk, length, refl, sym, ◌∙◌, ap, subst, inl, inr}
use Rattle.std.specs.List.{AllByRecursion, IsDistinct, list_any, range_with_len}
use Rattle.std.specs.List.Sorted.{IsStrictlySortedBy}
use Rattle.std.proofs.lemmas.Bool.{cases_Bool, eqb-true, ltb-false}
use Rattle.std.proofs.lemmas.List.{append-nil}
use Rattle.tb_graph.specs.Leads.{is_acyclic}
use Rattle.tb_graph.proofs.Leading.{is_acyclic_decides}
use Rattle.tb_task.specs.declared.checks.Field.{Field}
use Rattle.tb_task.specs.declared.incoming.Incoming.{Incoming}
use Rattle.tb_task.specs.declared.task.Task.{Task}
use Rattle.tb_board.specs.declared.board.Board.{Board}
use Rattle.tb_board.specs.declared.gone.Gone.{Gone}
use Rattle.tb_board.specs.Board.{is_on}
use Rattle.tb_board.specs.Tasks.{ids}
use Rattle.tb_board.specs.Good.{IsGood, IsLinkedOn, IsSound}
use Rattle.tb_board.specs.Instances.{by_template, has_template, is_template_with, HasRuns, HasTemplateOn, IsGoneOn}
use Rattle.tb_board.specs.Links.{links}
use Rattle.tb_board.specs.InstancePlaces.{instance_places, is_id}
use Rattle.tb_board.specs.Templates.{gone_places}
use Rattle.tb_board.proofs.Fresh.{on_ids}
use Rattle.tb_board.proofs.GoneOrder.{template_is_on}
use Rattle.tb_board.proofs.Runs.{gone-there, parents-there, HasTemplatesOf}
use Rattle.tb_import.specs.declared.refusal.ImportRefusal.{ImportRefusal}
use Rattle.tb_import.specs.declared.refusal.ImportRefusal.TheVariants.{Cycle, Full}
use Rattle.tb_import.specs.Entering.{is_new_template_with, left_by, mask_places, takes, with_all}
use Rattle.tb_import.specs.Good.{ImportKeepsGood}
use Rattle.tb_import.specs.Import.{board_after, counts_after, with_masks}
use Rattle.tb_import.specs.News.{has_own_id, is_there, new_tasks}
use Rattle.tb_import.specs.Refusal.{bad_task, bad_task_or, import_fault, import_refusals, is_cyclic, is_too_full, least, unless_refused, where_holds}
use Rattle.tb_import.proofs.Moving.{apart_from, or_left, or_right, run_range}
use Rattle.tb_import.proofs.Numbering.{gone_places-append, masks_none, masks_range, on_own, own_ids, runs_all}
use Rattle.tb_import.proofs.Ordering.{left_sorted}
use Rattle.tb_import.proofs.Sound.{sound_entered}
use Rattle.tb_import.proofs.Templates.{all_append, all_left, entered_tasks, found_all, found_distinct, HasParentsOf, ids_after, kept_linked, left_all, masks_on, parent_after, shape, still_linked, templates_after, there_after}

-- ---- the tasks of the list

abbrev IsRead : Incoming → Type 0
IsRead i = import_fault i ≡ None

none_bad : (at : ℕ) (o : Option Field) (later : Option ImportRefusal) → bad_task_or at o later ≡ None → (o ≡ None) × (later ≡ None)
none_bad at (Some f) later h = absurd (cc)
none_bad at None later h = (refl, h)

all_read : (at : ℕ) (is : List Incoming) → bad_task at is ≡ None → AllByRecursion IsRead is
all_read at [] h = tt
all_read at (i ∷ is) h =
    let parts = none_bad at (import_fault i) (bad_task (at + 1) is) h in
    (parts.0, all_read (at + 1) is parts.1)

second_distinct : (xs ys : List ℕ) → IsDistinct nat_eq (xs ++ ys) → IsDistinct nat_eq ys
unfolding IsDistinct
second_distinct [] ys h = h
second_distinct (x ∷ xs) ys h = second_distinct xs ys h.1

-- ---- the places at the start

not_template : (b : Board) (id q : ℕ) → is_on b id ≡ false → list_any (is_template_with q) b.tasks ≡ true → (q == id) ≡ false
not_template b id q none there =
    elim (cases_Bool (q == id)) [
      | inl same ↦ absurd (true≢false (sym (template_is_on b.tasks q there) ∙ ap (is_on b) (eqb-true q id same) ∙ none))
      | inr other ↦ other
    ]

gone_none : (b : Board) (id : ℕ) (gs : List Gone) → is_on b id ≡ false → AllByRecursion (IsGoneOn b) gs → gone_places id gs ≡ []
gone_none b id [] none h = refl
gone_none b id (g ∷ gs) none h = rw (not_template b id g.template none h.0) (gone_none b id gs none h.1)

not_parent : (b : Board) (id : ℕ) (o : Option ℕ) → is_on b id ≡ false → has_template b o ≡ true → is_id id o ≡ false
not_parent b id None none h = refl
not_parent b id (Some q) none h = not_template b id q none h

instances_none : (b : Board) (id : ℕ) (ts : List Task) → is_on b id ≡ false → AllByRecursion (HasTemplateOn b) ts → instance_places id ts ≡ []
instances_none b id [] none h = refl
instances_none b id (t ∷ ts) none h = rw (not_parent b id t.parent none h.0) (instances_none b id ts none h.1)

-- a new task's identifier is on no board
new_alone : (b : Board) (new : List Incoming) (id : ℕ) → IsDistinct nat_eq (ids b.tasks ++ own_ids new) → list_any (has_own_id id) new ≡ true → is_on b id ≡ false
new_alone b new id distinct there =
    elim (cases_Bool (is_on b id)) [
      | inl old ↦
          absurd (true≢false (sym (sym (on_own id new) ∙ there) ∙ apart_from id (ids b.tasks) (own_ids new) distinct (sym (on_ids id b.tasks) ∙ old)))
      | inr other ↦ other
    ]

runs_start : (b : Board) (new : List Incoming) → IsGood b → IsDistinct nat_eq (ids b.tasks ++ own_ids new) → HasRuns (with_masks b new)
runs_start b new good distinct id =
    elim (cases_Bool (list_any (has_own_id id) new)) [
      | inl there ↦
          let none = new_alone b new id distinct there in
          let masks = masks_range id new (second_distinct (ids b.tasks) (own_ids new) distinct) in
          rw (gone_places-append id b.gone (mask_places new), gone_none b id b.gone none good.gone, instances_none b id b.tasks none good.parents, masks.1, append-nil (range_with_len 0 masks.0))
          (run_range masks.0)
      | inr other ↦ rw (gone_places-append id b.gone (mask_places new), masks_none id new other, append-nil (gone_places id b.gone)) (good.runs id)
    ]

-- ---- the new tasks on the board

sound_all : (b : Board) (new : List Incoming) (gs : List Gone) (is : List Incoming) → AllByRecursion IsRead is → AllByRecursion IsSound (entered_tasks b new gs is)
sound_all b new gs [] h = tt
sound_all b new gs (i ∷ is) h = (sound_entered b new gs i h.0, sound_all b new (left_by b new gs i) is h.1)

linked_all : (b later : Board) (new : List Incoming) → ((q : ℕ) → is_on later q ≡ is_there b new q) → (gs : List Gone) (is : List Incoming)
    → AllByRecursion (IsLinkedOn later) (entered_tasks b new gs is)
linked_all b later new there gs [] = tt
linked_all b later new there gs (i ∷ is) = (kept_linked b later new there i.task.depends, linked_all b later new there (left_by b new gs i) is)

linked_old : (b later : Board) (new : List Incoming) → ((q : ℕ) → is_on later q ≡ is_there b new q) → (ts : List Task) → AllByRecursion (IsLinkedOn b) ts → AllByRecursion (IsLinkedOn later) ts
linked_old b later new there [] h = tt
linked_old b later new there (t ∷ ts) h = (still_linked b later new there t.depends h.0, linked_old b later new there ts h.1)

parents_all : (b later : Board) (new : List Incoming) → HasParentsOf b new later → (gs : List Gone) (is : List Incoming) → AllByRecursion (HasTemplateOn later) (entered_tasks b new gs is)
parents_all b later new all gs [] = tt
parents_all b later new all gs (i ∷ is) = (
  parent_after b later new gs i.raw_parent i.raw_imask (takes b new gs i) all refl,
  parents_all b later new all (left_by b new gs i) is,
)

-- a board with the new tasks
good_after : (b later : Board) (new : List Incoming) → IsGood b → AllByRecursion IsRead new → IsDistinct nat_eq (ids b.tasks ++ own_ids new)
    → later ≡ with_all b new (with_masks b new) new → is_acyclic (links later) ≡ true → nat_lt 10000 (length later.tasks) ≡ false → IsGood later
good_after b later new good read distinct is acyclic room =
    let start = with_masks b new in
    let gs = start.gone in
    let shaped = is ∙ shape b new start new in
    let tasks : later.tasks ≡ b.tasks ++ entered_tasks b new gs new = ap (λ (c : Board). c.tasks) shaped in
    let left : later.gone ≡ left_all b new gs new = ap (λ (c : Board). c.gone) shaped in
    let there = there_after b later new gs tasks in
    let all : HasParentsOf b new later = templates_after b later new gs tasks in
    let old : HasTemplatesOf b later = λ q h. all q (or_left (list_any (is_template_with q) b.tasks) (list_any (is_new_template_with q) new) h) in
    let fresh : (q : ℕ) → list_any (is_new_template_with q) new ≡ true → list_any (is_template_with q) later.tasks ≡ true =
    λ q h. all q (or_right (list_any (is_template_with q) b.tasks) (list_any (is_new_template_with q) new) h) in
    record {
      distinct = subst (IsDistinct nat_eq) (sym (ap ids tasks ∙ ids_after b new gs)) distinct;
      few = ltb-false 10000 (length later.tasks) room;
      sound = subst (AllByRecursion IsSound) (sym tasks) (all_append IsSound b.tasks (entered_tasks b new gs new) good.sound (sound_all b new gs new read));
      linked = subst (AllByRecursion (IsLinkedOn later)) (sym tasks)
          (all_append (IsLinkedOn later) b.tasks (entered_tasks b new gs new) (linked_old b later new there b.tasks good.linked) (linked_all b later new there gs new));
      acyclic = (is_acyclic_decides (links later)).0 acyclic;
      runs = subst HasRuns (sym is) (runs_all b new start new (runs_start b new good distinct));
      parents = subst (AllByRecursion (HasTemplateOn later)) (sym tasks)
          (all_append (HasTemplateOn later) b.tasks (entered_tasks b new gs new) (parents-there b later old b.tasks good.parents) (parents_all b later new all gs new));
      gone = subst (AllByRecursion (IsGoneOn later)) (sym left)
          (all_left (IsGoneOn later) b new gs new (all_append (IsGoneOn later) b.gone (mask_places new) (gone-there b later old b.gone good.gone) (masks_on later new fresh)));
      gone_order = subst (λ hs. IsStrictlySortedBy (by_template (ids later.tasks)) hs) (sym left)
          (subst (λ all. IsStrictlySortedBy (by_template all) (left_all b new gs new)) (sym (ap ids tasks ∙ ids_after b new gs)) (left_sorted b new good.gone good.gone_order distinct));
    }

-- ---- the import

none_least : (o : Option ImportRefusal) (rs : List (Option ImportRefusal)) → least (o ∷ rs) ≡ None → (o ≡ None) × (least rs ≡ None)
none_least None rs h = (refl, h)
none_least (Some r) rs h = absurd (cc)

none_holds : (r : ImportRefusal) (holds : Bool) → where_holds r holds ≡ None → holds ≡ false
none_holds r true h = absurd (cc)
none_holds r false h = refl

not_false : (p : Bool) → not p ≡ false → p ≡ true
not_false true h = refl
not_false false h = absurd (true≢false h)

good_accepted : (b : Board) (is : List Incoming) → IsGood b → least (import_refusals b is) ≡ None → IsGood (board_after b is)
good_accepted b is good h =
    let later = board_after b is in
    let bad = none_least (bad_task 0 is) _ h in
    let cyclic = none_least (where_holds Cycle (is_cyclic later)) _ bad.1 in
    let full = none_least (where_holds Full (is_too_full later)) [] cyclic.1 in
    good_after b later (new_tasks b is) good (found_all IsRead b [] is tt (all_read 0 is bad.0))
    (found_distinct b [] is (subst (IsDistinct nat_eq) (sym (append-nil (ids b.tasks))) good.distinct)) refl
    (not_false (is_acyclic (links later)) (none_holds Cycle (is_cyclic later) cyclic.0)) (none_holds Full (is_too_full later) full.0)

by_refusal : (b : Board) (is : List Incoming) (o : Option ImportRefusal) → least (import_refusals b is) ≡ o → IsGood b
    → IfOk (unless_refused o (board_after b is) (counts_after b is)) (λ after. IsGood after.0)
by_refusal b is None h good = good_accepted b is good h
by_refusal b is (Some r) h good = tt

pub import_keeps_good : ImportKeepsGood
import_keeps_good b is good = by_refusal b is (least (import_refusals b is)) refl good
