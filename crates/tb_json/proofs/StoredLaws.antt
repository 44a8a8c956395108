-- The text of a stored task is JSON that reads as what was written.
use Rattle.std.proofs.Common.{◌≡◌, ℕ, pos, negsuc, ◌^◌, ◌<◌, ◌≤◌, List, [], ◌∷◌, Option, Some, None, option_map, Ok, codes, refl, arith}
use Rattle.std.specs.List.{AllByRecursion}
use Rattle.std.specs.List.Sorted.{IsStrictlySortedBy}
use Rattle.std.specs.Prelude.{IfSome}
use Rattle.serde_json.specs.Data.{Data, string, Members, no_members, depth, items_depth, members_depth}
use Rattle.serde_json.specs.Read.{read}
use Rattle.tb_task.specs.Storable.{IsStorable, IsStorableExtra, IsValue}
use Rattle.tb_task.specs.TaskId.{IsRead}
use Rattle.tb_task.specs.declared.extra.Extra.{Extra}
use Rattle.tb_task.specs.declared.extra.ExtraValue.{ExtraValue}
use Rattle.tb_task.specs.declared.extra.ExtraValue.TheVariants.{Text, Whole, Truth, Null}
use Rattle.tb_task.specs.declared.task.Annotation.{Annotation}
use Rattle.tb_task.specs.declared.task.Task.{Task}
use Rattle.tb_json.specs.Stored.{stored_text, stored_of}
use Rattle.tb_json.specs.Writing.{Field, with_field, with_fields, imask_data, items_of_texts, texts_data, items_of_ids, ids_data, annotation_data, items_of_annotations, annotations_data, value_data, extra_fields, early_fields, middle_fields, late_fields, members_of, task_json}
use Rattle.tb_json.proofs.Names.{names}
use Rattle.tb_json.proofs.ReadBack.{IsPlain, ItemsArePlain, MembersArePlain, sorted_put, plain_put, depth_put, read-compact_text}
use Rattle.tb_values.proofs.TextSets.{text_cmp}
use Rattle.tb_json.proofs.Trip.{task_found}

-- the members can be written and read again
record Readable (ms : Members) : Type 0 where
  plain : MembersArePlain ms
  sorted : IsStrictlySortedBy text_cmp (names ms)
  shallow : members_depth ms ≤ 2

abbrev IsGood : Option Data → Type 0
IsGood None = Unit {0}
IsGood (Some d) = IsPlain d × (depth d ≤ 2)

abbrev AreGood : List Field → Type 0
AreGood [] = Unit {0}
AreGood (f ∷ fs) = IsGood f.1 × AreGood fs

good_field : (name : List ℕ) (o : Option Data) (ms : Members) → IsGood o → Readable ms → Readable (with_field name o ms)
good_field name None ms h r = r
good_field name (Some d) ms h r = record { plain = plain_put name d ms h.0 r.plain; sorted = sorted_put name d ms r.sorted; shallow = depth_put 2 name d ms h.1 r.shallow }

good_fields : (fs : List Field) (ms : Members) → AreGood fs → Readable ms → Readable (with_fields fs ms)
good_fields [] ms h r = r
good_fields (f ∷ fs) ms h r = good_fields fs (with_field f.0 f.1 ms) h.1 (good_field f.0 f.1 ms h.0 r)

-- a text where one is there
good_string : {A : Type 0} (f : A → List ℕ) (o : Option A) → IsGood (option_map (λ a. string (f a)) o)
good_string f None = tt
good_string f (Some a) = (tt, omega arith)

good_imask : (o : Option ℕ) → IfSome o (λ n. n < 2 ^ 32) → IsGood (option_map imask_data o)
good_imask None h = tt
good_imask (Some n) h = (omega arith, omega arith)

plain_texts : (ts : List (List ℕ)) → ItemsArePlain (items_of_texts ts)
plain_texts [] = tt
plain_texts (t ∷ ts) = (tt, plain_texts ts)

flat_texts : (ts : List (List ℕ)) → items_depth (items_of_texts ts) ≤ 0
flat_texts [] = omega arith
flat_texts (t ∷ ts) = let rest = flat_texts ts in omega arith

good_texts : (ts : List (List ℕ)) → IsGood (texts_data ts)
good_texts [] = tt
good_texts (t ∷ ts) = let flat = flat_texts (t ∷ ts) in (plain_texts (t ∷ ts), omega arith)

plain_ids : (ids : List ℕ) → ItemsArePlain (items_of_ids ids)
plain_ids [] = tt
plain_ids (id ∷ ids) = (tt, plain_ids ids)

flat_ids : (ids : List ℕ) → items_depth (items_of_ids ids) ≤ 0
flat_ids [] = omega arith
flat_ids (id ∷ ids) = let rest = flat_ids ids in omega arith

good_ids : (ids : List ℕ) → IsGood (ids_data ids)
good_ids [] = tt
good_ids (id ∷ ids) = let flat = flat_ids (id ∷ ids) in (plain_ids (id ∷ ids), omega arith)

-- of two names, the first is below the second
two_names : IsStrictlySortedBy text_cmp (codes "description" ∷ codes "entry" ∷ [])
unfolding IsStrictlySortedBy
two_names = ((refl, tt), (tt, tt))

plain_note : (a : Annotation) → IsPlain (annotation_data a)
unfolding annotation_data
plain_note a = ((tt, (tt, tt)), two_names)

flat_note : (a : Annotation) → depth (annotation_data a) ≤ 1
unfolding annotation_data
flat_note a = omega arith

plain_notes : (notes : List Annotation) → ItemsArePlain (items_of_annotations notes)
plain_notes [] = tt
plain_notes (a ∷ notes) = (plain_note a, plain_notes notes)

flat_notes : (notes : List Annotation) → items_depth (items_of_annotations notes) ≤ 1
flat_notes [] = omega arith
flat_notes (a ∷ notes) = let first = flat_note a in let rest = flat_notes notes in omega arith

good_notes : (notes : List Annotation) → IsGood (annotations_data notes)
good_notes [] = tt
good_notes (a ∷ notes) = let flat = flat_notes (a ∷ notes) in (plain_notes (a ∷ notes), omega arith)

good_value : (v : ExtraValue) → IsValue v → IsGood (Some (value_data v))
good_value (Text s) h = (tt, omega arith)
good_value (Whole (pos n)) h = (omega arith, omega arith)
good_value (Whole (negsuc n)) h = (h, omega arith)
good_value (Truth b) h = (tt, omega arith)
good_value Null h = (tt, omega arith)

good_extras : (es : List Extra) → AllByRecursion IsStorableExtra es → AreGood (extra_fields es)
good_extras [] h = tt
good_extras (e ∷ es) h = (good_value e.value h.0.value, good_extras es h.1)

nothing_yet : Readable no_members
unfolding IsStrictlySortedBy
nothing_yet = record { plain = tt; sorted = tt; shallow = omega arith }

good_early : (t : Task) → AreGood (early_fields t)
good_early t =
    (good_notes t.annotations, (good_ids t.depends, ((tt, omega arith), (good_string _ t.due, (good_string _ t.end, ((tt, omega arith), tt))))))

good_middle : (t : Task) → IsStorable t → AreGood (middle_fields None t)
good_middle t h =
    (good_imask t.imask h.imask, (tt, (good_string _ t.modified, (good_string _ t.parent, (good_string _ t.priority, (good_string _ t.project, (good_string _ t.recur, tt)))))))

good_late : (t : Task) → AreGood (late_fields t)
good_late t =
    (good_string _ t.scheduled, (good_string _ t.start, ((tt, omega arith), (good_texts t.tags, (good_string _ t.until, ((tt, omega arith), (good_string _ t.wait, tt)))))))

members_readable : (t : Task) → IsStorable t → Readable (members_of None t)
unfolding members_of
members_readable t h =
    good_fields (late_fields t) _ (good_late t)
    (good_fields (middle_fields None t) _ (good_middle t h)
    (good_fields (early_fields t) _ (good_early t)
    (good_fields (extra_fields t.extras) no_members (good_extras t.extras h.extras) nothing_yet)))

pub read-stored_text : (t : Task) → IsStorable t → read (stored_text t) ≡ Some (task_json None t)
read-stored_text t h =
    let r = members_readable t h in
    let shallow = r.shallow in
    read-compact_text (task_json None t) (r.plain, r.sorted) (omega arith)

pub stored_of-stored_text : IsRead → (t : Task) → IsStorable t → stored_of (stored_text t) ≡ Ok t
stored_of-stored_text law t h = rw (read-stored_text t h) (task_found law t h)
