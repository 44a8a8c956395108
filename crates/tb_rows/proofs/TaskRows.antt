-- The rows of a task before and after changes.
use Rattle.std.proofs.Common.{◌≡◌, ℕ, ◌+◌, ◌<◌, ◌≤◌, true, false, not, List, [], ◌∷◌, ◌++◌, map, filter, refl, sym, ◌∙◌, ap, subst, inl, inr, IsPermutation}
use Rattle.std.specs.List.{AllByRecursion}
use Rattle.std.proofs.lemmas.Bool.{cases_Bool, lt-ltb, le-ltb}
use Rattle.std.proofs.lemmas.List.Elements.{filter-append}
use Rattle.sqlite_trees.proofs.ListLemmas.{all_weaker, filter_all, filter_none, IsPermutation-same}
use Rattle.tb_task.specs.declared.task.Task.{Task}
use Rattle.tb_json.specs.Stored.{stored_text}
use Rattle.tb_board.specs.declared.board.Board.{Board}
use Rattle.tb_sql_tables.specs.declared.rows.TaskRow.{TaskRow}
use Rattle.tb_sql_tables.specs.declared.rows.LinkRow.{LinkRow}
use Rattle.tb_sql_tables.specs.declared.rows.InstanceRow.{InstanceRow}
use Rattle.tb_sql.specs.declared.changes.RowChange.{RowChange}
use Rattle.tb_sql.specs.declared.changes.RowChange.TheVariants.{AddTask, SetText, SetMask, AddLink, RemoveLinks, AddInstance}
use Rattle.tb_sql.specs.Changes.{is_task, is_link_from}
use Rattle.tb_rows.specs.Rows.{mask_cell, task_row, link_row, link_rows, instance_rows}
use Rattle.tb_rows.specs.Steps.{is_among, new_task, put_task, new_mask, task_changes}
use Rattle.tb_rows.proofs.Tables.{task_by, link_by, instance_by, added, turns_added}
use Rattle.tb_rows.proofs.Turning.{all_by, first_changed, inert-append, inert-if, inert-map, inert_next, inert_none, inert_then_turns, IsInert, met, not_met, Turns, turns_none, turns_then_inert}
use Rattle.tb_rows.proofs.Places.{IsOff}

-- what an earlier and a later task of a place have in common, beside the changes
pub record IsKept (a b : Board) (put templates : List ℕ) (i : ℕ) (s t : Task) : Type 0 where
  pub id : t.id ≡ s.id
  pub same : is_among put i ≡ false → t ≡ s
  pub mask : is_among put i ≡ false → is_among templates i ≡ false → mask_cell b t ≡ mask_cell a s
  pub links : (p : ℕ) → link_rows b p s ≡ link_rows a p s
  pub instance : (p : ℕ) → instance_rows b p t ≡ instance_rows a p s

abbrev pub IsOffTask : ℕ → ℕ → TaskRow → Type 0
IsOffTask = IsOff (λ (r : TaskRow). r.board) (λ (r : TaskRow). r.place)

abbrev pub IsOffLink : ℕ → ℕ → LinkRow → Type 0
IsOffLink = IsOff (λ (r : LinkRow). r.board) (λ (r : LinkRow). r.place)

abbrev pub IsOffInstance : ℕ → ℕ → InstanceRow → Type 0
IsOffInstance = IsOff (λ (r : InstanceRow). r.board) (λ (r : InstanceRow). r.place)

tasks_off : (n p : ℕ) (rest : List TaskRow) → AllByRecursion (IsOffTask n p) rest → AllByRecursion (λ r. is_task n p r ≡ false) rest
tasks_off n p = all_weaker _ _ (λ (r : TaskRow) off. not_met r.board n r.place p off)

-- ---- the table of tasks

links_no_tasks : (ls : List LinkRow) → IsInert task_by (map AddLink ls)
links_no_tasks = inert-map task_by AddLink (λ l rows. refl)

instances_no_tasks : (is : List InstanceRow) → IsInert task_by (map AddInstance is)
instances_no_tasks = inert-map task_by AddInstance (λ l rows. refl)

set_text : (a b : Board) (p : ℕ) (s t : Task) (rest : List TaskRow) → b.number ≡ a.number → t.id ≡ s.id → AllByRecursion (IsOffTask b.number p) rest
    → task_by (SetText b.number p (stored_text t) (mask_cell b t)) (task_row a p s ∷ rest) ≡ task_row b p t ∷ rest
set_text a b p s t rest number id off =
    first_changed (is_task b.number p) (λ (task : TaskRow). let changed : TaskRow = record task { body = stored_text t; mask = mask_cell b t } in changed)
    (task_row a p s) (task_row b p t) rest (met a.number b.number p p (sym number) refl) (rw (number, id) refl) (tasks_off b.number p rest off)

set_mask : (a b : Board) (p : ℕ) (s t : Task) (rest : List TaskRow) → b.number ≡ a.number → t ≡ s → AllByRecursion (IsOffTask b.number p) rest
    → task_by (SetMask b.number p (mask_cell b t)) (task_row a p s ∷ rest) ≡ task_row b p t ∷ rest
set_mask a b p s t rest number same off =
    first_changed (is_task b.number p) (λ (task : TaskRow). let changed : TaskRow = record task { mask = mask_cell b t } in changed)
    (task_row a p s) (task_row b p t) rest (met a.number b.number p p (sym number) refl) (rw (number, same) refl) (tasks_off b.number p rest off)

same_row : (a b : Board) (p : ℕ) (s t : Task) → b.number ≡ a.number → t ≡ s → mask_cell b t ≡ mask_cell a s → task_row a p s ≡ task_row b p t
same_row a b p s t number same mask = rw (number, mask, same) refl

pub task_kept : (a b : Board) (old : ℕ) (put templates : List ℕ) (i : ℕ) (s t : Task) → b.number ≡ a.number → i < old → IsKept a b put templates i s t
    → Turns task_by (IsOffTask b.number (i + 1)) (task_changes b old put templates i t) (task_row a (i + 1) s ∷ []) (task_row b (i + 1) t ∷ [])
task_kept a b old put templates i s t number within kept =
    rw (lt-ltb i old within)
    (elim (cases_Bool (is_among put i)) [
      | inl here ↦ rw here (record { turned = λ rest off. IsPermutation-same _ _ ((links_no_tasks (link_rows b (i + 1) t)).same _ ∙ set_text a b (i + 1) s t rest number kept.id off) })
      | inr not_put ↦ rw not_put (elim (cases_Bool (is_among templates i)) [
        | inl concerned ↦ rw concerned (record { turned = λ rest off. IsPermutation-same _ _ (set_mask a b (i + 1) s t rest number (kept.same not_put) off) })
        | inr alone ↦ rw (alone, same_row a b (i + 1) s t number (kept.same not_put) (kept.mask not_put alone)) (turns_none task_by _ [] _ (inert_none task_by))
      ])
    ])

pub task_new : (IsApart : TaskRow → Type 0) (b : Board) (p : ℕ) (t : Task) → Turns task_by IsApart (new_task b p t) [] (task_row b p t ∷ [])
task_new IsApart b p t =
    record {
      turned = λ rest apart. IsPermutation-same _ _
          ((inert-append task_by (map AddLink (link_rows b p t)) (map AddInstance (instance_rows b p t)) (links_no_tasks (link_rows b p t)) (instances_no_tasks (instance_rows b p t))).same (task_row b p t ∷ rest));
    }

-- ---- the table of links

links_off : (n p : ℕ) (rest : List LinkRow) → AllByRecursion (IsOffLink n p) rest → AllByRecursion (λ r. not (is_link_from n p r) ≡ true) rest
links_off n p = all_weaker _ _ (λ (r : LinkRow) off. ap not (not_met r.board n r.place p off))

own_links : (a : Board) (n p : ℕ) → a.number ≡ n → (is : List ℕ) → AllByRecursion (λ r. not (is_link_from n p r) ≡ false) (map (link_row a p) is)
own_links a n p number [] = tt
own_links a n p number (i ∷ is) = (ap not (met a.number n p p number refl), own_links a n p number is)

links_removed : (a b : Board) (p : ℕ) (s : Task) (rest : List LinkRow) → b.number ≡ a.number → AllByRecursion (IsOffLink b.number p) rest
    → link_by (RemoveLinks b.number p) (link_rows a p s ++ rest) ≡ rest
links_removed a b p s rest number off =
    filter-append _ (link_rows a p s) rest
    ∙ ap (λ l. l ++ filter (λ r. not (is_link_from b.number p r)) rest) (filter_none _ (link_rows a p s) (own_links a b.number p (sym number) s.depends))
    ∙ filter_all _ rest (links_off b.number p rest off)

pub link_kept : (a b : Board) (old : ℕ) (put templates : List ℕ) (i : ℕ) (s t : Task) → b.number ≡ a.number → i < old → IsKept a b put templates i s t
    → Turns link_by (IsOffLink b.number (i + 1)) (task_changes b old put templates i t) (link_rows a (i + 1) s) (link_rows b (i + 1) t)
link_kept a b old put templates i s t number within kept =
    rw (lt-ltb i old within)
    (elim (cases_Bool (is_among put i)) [
      | inl here ↦ rw here (record {
        turned = λ rest off. subst (λ l. IsPermutation (all_by link_by (map AddLink (link_rows b (i + 1) t)) l) (link_rows b (i + 1) t ++ rest)) (sym (links_removed a b (i + 1) s rest number off))
            (added link_by AddLink (λ r rows. refl) (link_rows b (i + 1) t) rest);
      })
      | inr not_put ↦
          let same : link_rows a (i + 1) s ≡ link_rows b (i + 1) t = sym (kept.links (i + 1)) ∙ ap (link_rows b (i + 1)) (sym (kept.same not_put)) in
          rw (not_put, same) (turns_none link_by _ _ (link_rows b (i + 1) t)
          (inert-if link_by (is_among templates i) (new_mask b (i + 1) t) [] (inert_next link_by _ [] (λ rows. refl) (inert_none link_by)) (inert_none link_by)))
    ])

pub link_new : (IsApart : LinkRow → Type 0) (b : Board) (p : ℕ) (t : Task) → Turns link_by IsApart (new_task b p t) [] (link_rows b p t)
link_new IsApart b p t =
    inert_then_turns link_by IsApart (AddTask (task_row b p t) ∷ []) (map AddLink (link_rows b p t) ++ map AddInstance (instance_rows b p t)) [] (link_rows b p t)
    (inert_next link_by _ [] (λ rows. refl) (inert_none link_by))
    (turns_then_inert link_by IsApart (map AddLink (link_rows b p t)) (map AddInstance (instance_rows b p t)) [] (link_rows b p t)
    (turns_added link_by IsApart AddLink (λ r rows. refl) (link_rows b p t)) (inert-map link_by AddInstance (λ r rows. refl) (instance_rows b p t)))

-- ---- the table of instances

pub instance_kept : (a b : Board) (old : ℕ) (put templates : List ℕ) (i : ℕ) (s t : Task) → i < old → IsKept a b put templates i s t
    → Turns instance_by (IsOffInstance b.number (i + 1)) (task_changes b old put templates i t) (instance_rows a (i + 1) s) (instance_rows b (i + 1) t)
instance_kept a b old put templates i s t within kept =
    rw (lt-ltb i old within, sym (kept.instance (i + 1)))
    (turns_none instance_by _ _ (instance_rows b (i + 1) t)
    (inert-if instance_by (is_among put i) (put_task b (i + 1) t) _
    (inert_next instance_by _ _ (λ rows. refl) (inert_next instance_by _ _ (λ rows. refl) (inert-map instance_by AddLink (λ r rows. refl) (link_rows b (i + 1) t))))
    (inert-if instance_by (is_among templates i) (new_mask b (i + 1) t) [] (inert_next instance_by _ [] (λ rows. refl) (inert_none instance_by)) (inert_none instance_by))))

pub instance_new : (IsApart : InstanceRow → Type 0) (b : Board) (p : ℕ) (t : Task) → Turns instance_by IsApart (new_task b p t) [] (instance_rows b p t)
instance_new IsApart b p t =
    inert_then_turns instance_by IsApart (AddTask (task_row b p t) ∷ map AddLink (link_rows b p t)) (map AddInstance (instance_rows b p t)) [] (instance_rows b p t)
    (inert_next instance_by _ _ (λ rows. refl) (inert-map instance_by AddLink (λ r rows. refl) (link_rows b p t)))
    (turns_added instance_by IsApart AddInstance (λ r rows. refl) (instance_rows b p t))

-- ---- a task that is new among those of a board

pub new_there : {R : Type 0} (by : RowChange → List R → List R) (IsApart : R → Type 0) (b : Board) (old : ℕ) (put templates : List ℕ) (i : ℕ) (t : Task) (new : List R) → old ≤ i
    → Turns by IsApart (new_task b (i + 1) t) [] new → Turns by IsApart (task_changes b old put templates i t) [] new
new_there by IsApart b old put templates i t new past turn = rw (le-ltb i old past) turn
