-- The tasks of a board are read back from their rows.
use Rattle.std.proofs.Common.{◌≡◌, ℕ, ◌+◌, Bool, true, false, List, [], ◌∷◌, ◌++◌, Some, None, if◌then◌else◌, Ok, length, refl, sym, ap, ◌∙◌, arith, append_assoc, true≢false, length-append}
use Rattle.std.specs.List.{AllByRecursion}
use Rattle.std.proofs.lemmas.Bool.{eq-eqb}
use Rattle.std.proofs.lemmas.List.{append-nil}
use Rattle.tb_task.specs.declared.task.Task.{Task}
use Rattle.tb_task.specs.declared.checks.Field.TheVariants.{EmptyDescription, BadTag, BadText, BadPair}
use Rattle.tb_task.specs.Checks.{fault_of, has_bad_pair, is_empty}
use Rattle.tb_task.specs.Storable.{IsStorable}
use Rattle.tb_task.specs.TaskId.{IsRead}
use Rattle.tb_task.proofs.Storables.{own_names, storable_extras, not_empty}
use Rattle.tb_json.proofs.StoredLaws.{stored_of-stored_text}
use Rattle.tb_board.specs.declared.board.Board.{Board}
use Rattle.tb_board.specs.Good.{IsSound}
use Rattle.tb_rows.specs.Rows.{rows_from, task_row}
use Rattle.tb_rows.specs.Forms.{HasTaskForm}
use Rattle.tb_rows.specs.Reading.{task_at, tasks_in}

-- ---- a sound task can be stored

no_fault : (a b c d : Bool) → (if a then Some EmptyDescription else if b then Some BadTag else if c then Some BadText else if d then Some BadPair else None) ≡ None → (a ≡ false) × (d ≡ false)
no_fault true b c d h = absurd (cc)
no_fault false true c d h = absurd (cc)
no_fault false false true d h = absurd (cc)
no_fault false false false true h = absurd (cc)
no_fault false false false false h = (refl, refl)

passed : (t : Task) → fault_of t ≡ None → (is_empty t.description ≡ false) × (has_bad_pair t ≡ false)
unfolding fault_of
passed t h = no_fault _ _ _ _ h

pub storable : (t : Task) → HasTaskForm t → IsSound t → IsStorable t
storable t form sound =
    let good = passed t sound.taken in
    record {
      id = form.links.id;
      moments = form.moments;
      description = not_empty t.description (λ none. true≢false (ap is_empty (sym none) ∙ good.0));
      project = form.texts.project;
      recur = form.texts.recur;
      tags = form.texts.tags;
      annotations = form.texts.annotations;
      depends = form.links.depends;
      links = form.links.links;
      parent = form.links.parent;
      imask = form.links.imask;
      extras = storable_extras t.extras form.extras (own_names t good.1);
      names = form.names;
    }

pub all-storable : (ts : List Task) → AllByRecursion HasTaskForm ts → AllByRecursion IsSound ts → AllByRecursion IsStorable ts
all-storable [] forms sound = tt
all-storable (t ∷ ts) forms sound = (storable t forms.0 sound.0, all-storable ts forms.1 sound.1)

-- ---- its row is read

task_read : IsRead → (b : Board) (place n : ℕ) (t : Task) → n ≡ place → IsStorable t → task_at place (task_row b n t) ≡ Ok t
task_read law b place n t at h = rw (eq-eqb n place at, stored_of-stored_text law t h, eq-eqb t.id t.id refl) refl

pub tasks_read : IsRead → (b : Board) (found ts : List Task) (n : ℕ) → n ≡ length found + 1 → AllByRecursion IsStorable ts
    → tasks_in found (rows_from (λ place t. task_row b place t ∷ []) n ts) ≡ Ok (found ++ ts)
tasks_read law b found [] n at all = ap Ok (sym (append-nil found))
tasks_read law b found (t ∷ ts) n at all =
    let next : n + 1 ≡ length (found ++ t ∷ []) + 1 = omega (arith, length-append found (t ∷ [])) in
    rw (task_read law b (length found + 1) n t at all.0) (tasks_read law b (found ++ t ∷ []) ts (n + 1) next all.1 ∙ ap Ok (append_assoc found (t ∷ []) ts))
