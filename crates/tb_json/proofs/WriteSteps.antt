-- The loops that write, and that no float is written.
use Rattle.std.proofs.Common.{◌≡◌, ℕ, zero, suc, ◌<◌, ◌≤◌, ℤ, pos, negsuc, List, [], ◌∷◌, ◌++◌, length, drop, get_or, Bool, true, false, ◌||◌, Option, Some, None, option_map, Ordering, Less, Equal, Greater, nat_cmp, refl, sym, ap, ◌∙◌, arith}
use Rattle.std.proofs.lemmas.List.{drop_all}
use Rattle.std.specs.Cmp.Lexicographic.{slice_cmp}
use Rattle.std.specs.Ordering.{match_ordering}
use Rattle.serde_json.specs.Data.{Data, string, array, Items, no_items, item, Members, no_members, member, put}
use Rattle.serde_json.specs.Find.{of_integer, is_float}
use Rattle.serde_json.specs.View.{view, items_view}
use Rattle.serde_json.specs.Written.{has_float, items_have_float, members_have_float}
use Rattle.serde_json.specs.declared.value.Value.{Value}
use Rattle.tb_task.specs.declared.extra.Extra.{Extra}
use Rattle.tb_task.specs.declared.extra.ExtraValue.{ExtraValue}
use Rattle.tb_task.specs.declared.extra.ExtraValue.TheVariants.{Text, Whole, Truth, Null}
use Rattle.tb_task.specs.declared.task.Annotation.{Annotation}
use Rattle.tb_task.specs.declared.task.Task.{Task}
use Rattle.tb_json.specs.Writing.{Field, with_field, with_fields, mask_data, items_of_texts, texts_data, id_data, items_of_ids, ids_data, annotation_data, items_of_annotations, annotations_data, value_data, extra_fields, early_fields, middle_fields, late_fields, members_of, task_json}

abbrev pub followed_by : Items → Items → Items
followed_by no_items more = more
followed_by (item d ds) more = item d (followed_by ds more)

pub followed_by-push : (vs : List Value) (v : Value) (d : Data) (more : Items) → view v ≡ d → followed_by (items_view (vs ++ v ∷ [])) more ≡ followed_by (items_view vs) (item d more)
followed_by-push [] v d more is = ap (λ e. item e more) is
followed_by-push (x ∷ vs) v d more is = ap (item (view x)) (followed_by-push vs v d more is)

pub followed_by-nothing : (vs : List Value) → followed_by (items_view vs) no_items ≡ items_view vs
followed_by-nothing [] = refl
followed_by-nothing (x ∷ vs) = ap (item (view x)) (followed_by-nothing vs)

-- ---- no float

no_float-put_at : (o : Ordering) (k l : List ℕ) (d e : Data) (ms rest : Members) → has_float d ≡ false → has_float e ≡ false → members_have_float ms ≡ false → members_have_float rest ≡ false
    → members_have_float (match_ordering o (member k d (member l e ms)) (member l d ms) (member l e rest)) ≡ false
no_float-put_at Less k l d e ms rest hd he hm hr = rw (hd, he, hm)
no_float-put_at Equal k l d e ms rest hd he hm hr = rw (hd, hm)
no_float-put_at Greater k l d e ms rest hd he hm hr = rw (he, hr)

left_false : (a b : Bool) → a || b ≡ false → a ≡ false
left_false true b h = h
left_false false b h = refl

right_false : (a b : Bool) → a || b ≡ false → b ≡ false
right_false true b h = absurd (cc)
right_false false b h = h

no_float-put : (k : List ℕ) (d : Data) (ms : Members) → has_float d ≡ false → members_have_float ms ≡ false → members_have_float (put k d ms) ≡ false
no_float-put k d no_members hd hm = rw hd
no_float-put k d (member l e ms) hd hm =
    no_float-put_at (slice_cmp nat_cmp k l) k l d e ms (put k d ms) hd (left_false (has_float e) _ hm) (right_false (has_float e) _ hm) (no_float-put k d ms hd (right_false (has_float e) _ hm))

-- the field has no float
abbrev pub IsFloatless : Option Data → Type 0
IsFloatless None = Unit {0}
IsFloatless (Some d) = has_float d ≡ false

abbrev pub AreFloatless : List Field → Type 0
AreFloatless [] = Unit {0}
AreFloatless (f ∷ fs) = IsFloatless f.1 × AreFloatless fs

no_float-with_field : (name : List ℕ) (o : Option Data) (ms : Members) → IsFloatless o → members_have_float ms ≡ false → members_have_float (with_field name o ms) ≡ false
no_float-with_field name None ms h hm = hm
no_float-with_field name (Some d) ms h hm = no_float-put name d ms h hm

no_float-with_fields : (fs : List Field) (ms : Members) → AreFloatless fs → members_have_float ms ≡ false → members_have_float (with_fields fs ms) ≡ false
no_float-with_fields [] ms h hm = hm
no_float-with_fields (f ∷ fs) ms h hm = no_float-with_fields fs (with_field f.0 f.1 ms) h.1 (no_float-with_field f.0 f.1 ms h.0 hm)

no_float-integer : (z : ℤ) → is_float (of_integer z) ≡ false
no_float-integer (pos n) = refl
no_float-integer (negsuc n) = refl

no_float-value : (v : ExtraValue) → has_float (value_data v) ≡ false
no_float-value (Text s) = refl
no_float-value (Whole z) = no_float-integer z
no_float-value (Truth b) = refl
no_float-value Null = refl

no_float-extras : (es : List Extra) → AreFloatless (extra_fields es)
no_float-extras [] = tt
no_float-extras (e ∷ es) = (no_float-value e.value, no_float-extras es)

-- what is no float where it is there
no_float-option : {A : Type 0} (f : A → Data) (o : Option A) → ((a : A) → has_float (f a) ≡ false) → IsFloatless (option_map f o)
no_float-option f None h = tt
no_float-option f (Some a) h = h a

no_float-mask : (mask : Option (List ℕ)) → IsFloatless (mask_data mask)
no_float-mask None = tt
no_float-mask (Some []) = tt
no_float-mask (Some (c ∷ cs)) = refl

no_float-texts : (ts : List (List ℕ)) → items_have_float (items_of_texts ts) ≡ false
no_float-texts [] = refl
no_float-texts (t ∷ ts) = no_float-texts ts

no_float-tags : (ts : List (List ℕ)) → IsFloatless (texts_data ts)
no_float-tags [] = tt
no_float-tags (t ∷ ts) = no_float-texts ts

no_float-ids : (ids : List ℕ) → items_have_float (items_of_ids ids) ≡ false
no_float-ids [] = refl
no_float-ids (id ∷ ids) = no_float-ids ids

no_float-depends : (ids : List ℕ) → IsFloatless (ids_data ids)
no_float-depends [] = tt
no_float-depends (id ∷ ids) = no_float-ids ids

no_float-notes : (notes : List Annotation) → items_have_float (items_of_annotations notes) ≡ false
unfolding annotation_data
no_float-notes [] = refl
no_float-notes (a ∷ notes) = no_float-notes notes

no_float-annotations : (notes : List Annotation) → IsFloatless (annotations_data notes)
unfolding annotation_data
no_float-annotations [] = tt
no_float-annotations (a ∷ notes) = no_float-notes notes

no_float-early : (t : Task) → AreFloatless (early_fields t)
no_float-early t =
    (no_float-annotations t.annotations, (no_float-depends t.depends, (refl, (no_float-option _ t.due (λ a. refl), (no_float-option _ t.end (λ a. refl), (refl, tt))))))

no_float-middle : (mask : Option (List ℕ)) (t : Task) → AreFloatless (middle_fields mask t)
no_float-middle mask t = (
  no_float-option _ t.imask (λ a. refl),
  (
    no_float-mask mask,
    (
      no_float-option _ t.modified (λ a. refl),
      (
        no_float-option _ t.parent (λ a. refl),
        (no_float-option _ t.priority (λ a. refl), (no_float-option _ t.project (λ a. refl), (no_float-option _ t.recur (λ a. refl), tt))),
      ),
    ),
  ),
)

no_float-late : (t : Task) → AreFloatless (late_fields t)
no_float-late t =
    (no_float-option _ t.scheduled (λ a. refl), (no_float-option _ t.start (λ a. refl), (refl, (no_float-tags t.tags, (no_float-option _ t.until (λ a. refl), (refl, (no_float-option _ t.wait (λ a. refl), tt)))))))

pub no_float : (mask : Option (List ℕ)) (t : Task) → has_float (task_json mask t) ≡ false
unfolding members_of
no_float mask t =
    no_float-with_fields (late_fields t) _ (no_float-late t)
    (no_float-with_fields (middle_fields mask t) _ (no_float-middle mask t)
    (no_float-with_fields (early_fields t) _ (no_float-early t)
    (no_float-with_fields (extra_fields t.extras) no_members (no_float-extras t.extras) refl)))

-- ---- the item at an index is written

abbrev pub AllOf : List Value → Items → Items → Type 0
AllOf vs more all = followed_by (items_view vs) more ≡ all

pub texts-more : (vs : List Value) (v : Value) (ts : List (List ℕ)) (i : ℕ) (t : List ℕ) (all : Items) → i < length ts → t ≡ get_or ts i t → view v ≡ string t
    → AllOf vs (items_of_texts (drop i ts)) all → AllOf (vs ++ v ∷ []) (items_of_texts (drop (suc i) ts)) all
texts-more vs v [] i t all within is made h = absurd (omega arith)
texts-more vs v (x ∷ ts) zero t all within is made h = followed_by-push vs v (string t) (items_of_texts ts) made ∙ ap (λ s. followed_by (items_view vs) (item (string s) (items_of_texts ts))) is ∙ h
texts-more vs v (x ∷ ts) (suc i) t all within is made h = texts-more vs v ts i t all (omega arith) is made h

pub ids-more : (vs : List Value) (v : Value) (ids : List ℕ) (i : ℕ) (id : ℕ) (all : Items) → i < length ids → id ≡ get_or ids i id → view v ≡ id_data id
    → AllOf vs (items_of_ids (drop i ids)) all → AllOf (vs ++ v ∷ []) (items_of_ids (drop (suc i) ids)) all
ids-more vs v [] i id all within is made h = absurd (omega arith)
ids-more vs v (x ∷ ids) zero id all within is made h = followed_by-push vs v (id_data id) (items_of_ids ids) made ∙ ap (λ s. followed_by (items_view vs) (item (id_data s) (items_of_ids ids))) is ∙ h
ids-more vs v (x ∷ ids) (suc i) id all within is made h = ids-more vs v ids i id all (omega arith) is made h

pub annotations-more : (vs : List Value) (v : Value) (notes : List Annotation) (i : ℕ) (a : Annotation) (all : Items) → i < length notes → a ≡ get_or notes i a → view v ≡ annotation_data a
    → AllOf vs (items_of_annotations (drop i notes)) all → AllOf (vs ++ v ∷ []) (items_of_annotations (drop (suc i) notes)) all
annotations-more vs v [] i a all within is made h = absurd (omega arith)
annotations-more vs v (x ∷ notes) zero a all within is made h =
    followed_by-push vs v (annotation_data a) (items_of_annotations notes) made ∙ ap (λ b. followed_by (items_view vs) (item (annotation_data b) (items_of_annotations notes))) is ∙ h
annotations-more vs v (x ∷ notes) (suc i) a all within is made h = annotations-more vs v notes i a all (omega arith) is made h

pub texts-done : (vs : List Value) (ts : List (List ℕ)) (i : ℕ) (all : Items) → length ts ≤ i → AllOf vs (items_of_texts (drop i ts)) all → items_view vs ≡ all
texts-done vs ts i all h done = sym (followed_by-nothing vs) ∙ ap (λ rest. followed_by (items_view vs) (items_of_texts rest)) (sym (drop_all i ts h)) ∙ done

pub ids-done : (vs : List Value) (ids : List ℕ) (i : ℕ) (all : Items) → length ids ≤ i → AllOf vs (items_of_ids (drop i ids)) all → items_view vs ≡ all
ids-done vs ids i all h done = sym (followed_by-nothing vs) ∙ ap (λ rest. followed_by (items_view vs) (items_of_ids rest)) (sym (drop_all i ids h)) ∙ done

pub annotations-done : (vs : List Value) (notes : List Annotation) (i : ℕ) (all : Items) → length notes ≤ i → AllOf vs (items_of_annotations (drop i notes)) all → items_view vs ≡ all
annotations-done vs notes i all h done = sym (followed_by-nothing vs) ∙ ap (λ rest. followed_by (items_view vs) (items_of_annotations rest)) (sym (drop_all i notes h)) ∙ done

pub annotations_data-filled : (notes : List Annotation) → 0 < length notes → annotations_data notes ≡ Some (array (items_of_annotations notes))
annotations_data-filled [] h = absurd (omega arith)
annotations_data-filled (a ∷ notes) h = refl
