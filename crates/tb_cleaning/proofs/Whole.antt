-- A text that is cleaned, by what is made of its tasks.
use Rattle.std.proofs.Common.{◌≡◌, ◌∙◌, ◌==◌, ℕ, Bool, false, List, Option, Some, None, Ok, ap, length, nat_lt, subst, sym}
use Rattle.serde_json.specs.Data.{Data}
use Rattle.tb_cleaning.specs.Cleaning.{CleansItems, IsCleaned, Reads, items_in}
use Rattle.tb_cleaning.specs.Entries.{Judged}
use Rattle.tb_cleaning.specs.Notes.{notes_of, notes_on, notes_text}
use Rattle.tb_cleaning.specs.Ordering.{brought}
use Rattle.tb_cleaning.specs.Sorting.{sorted}
use Rattle.tb_cleaning.specs.Steps.{Text}
use Rattle.tb_cleaning.specs.declared.cleaning.Cleaned.{Cleaned}
use Rattle.tb_cleaning.specs.declared.notes.Notes.{Notes}
use Rattle.tb_task.specs.Limits.{most_tasks}

-- the tasks and those that are brought, as each step has them
pub cleaned_is : (skips : Bool) (ds : List Data) (sorts ordered noted : List Judged) (list told written : List Judged) (notes : Notes) (text lines : Text) (count : ℕ)
    → sorts ≡ sorted ds → ordered ≡ sorts → list ≡ brought ordered → noted ≡ sorts → told ≡ list → notes ≡ notes_on noted told → written ≡ list
    → Reads text (items_in written) → lines ≡ notes_text skips notes → count ≡ length notes.refused
    → Reads text (items_in (brought (sorted ds))) × (lines ≡ notes_text skips (notes_of (sorted ds)))
    × ((count == 0) ≡ (length (notes_of (sorted ds)).refused == 0))
cleaned_is skips ds sorts ordered noted list told written notes text lines count s o l n t is w reads says counts =
    let all : ordered ≡ sorted ds = o ∙ s in
    let bs : list ≡ brought (sorted ds) = l ∙ ap brought all in
    let notes_are : notes ≡ notes_of (sorted ds) =
    is ∙ ap (λ es. notes_on es told) (n ∙ s) ∙ ap (λ es. notes_on (sorted ds) es) (t ∙ bs) in (
      subst (λ es. Reads text (items_in es)) (w ∙ bs) reads,
      says ∙ ap (notes_text skips) notes_are,
      ap (λ k. k == 0) counts ∙ ap (λ (x : Notes). length x.refused == 0) notes_are,
    )

-- a text whose items were read, and are few
pub cleans_some : (skips : Bool) (read : Option (List Data)) (ds : List Data) (cleaned : Cleaned)
    → Some ds ≡ read → nat_lt most_tasks (length ds) ≡ false → IsCleaned skips ds cleaned → CleansItems skips read (Ok cleaned)
cleans_some skips read ds cleaned is few whole = subst (λ r. CleansItems skips r (Ok cleaned)) is (few, whole)
