-- What is written in each form is read again.
use Rattle.std.proofs.Common.{◌≡◌, ℕ, pos, negsuc, ◌^◌, ◌<◌, ◌≤◌, ◌==◌, List, [], ◌∷◌, ◌++◌, length, map, false, inl, inr, Option, Some, None, option_map, option_and_then, Ok, Less, Greater, nat_cmp, unwrap_or, refl, sym, ap, ◌∙◌, append_assoc, append-nil, arith, Ordering}
use Rattle.std.specs.Prelude.{IfSome}
use Rattle.std.specs.Cmp.{IsTotalOrder}
use Rattle.std.proofs.lemmas.Bool.{cases_Bool, eqb-true, le-leb, lt-ltb}
use Rattle.std.proofs.lemmas.Cmp.{nat_list_cmp_total, nat_cmp_total}
use Rattle.std.specs.BTreeSet.{insert_key}
use Rattle.std.specs.List.{AllByRecursion}
use Rattle.std.specs.List.Sorted.{IsStrictlySortedBy}
use Rattle.std.specs.Ordering.{ordering_reverse}
use Rattle.serde_json.specs.Data.{Data, string, Members, no_members, member}
use Rattle.tb_task.proofs.Ids.{length-id_text}
use Rattle.tb_task.proofs.MomentTexts.{read_text, length-moment_text}
use Rattle.tb_task.specs.MomentText.{moment_text}
use Rattle.tb_task.specs.Priority.{priority_of}
use Rattle.tb_task.specs.Status.{status_of}
use Rattle.tb_task.specs.Storable.{IsMoment, IsId, IsNotEmpty, IsValue, IsStorableExtra}
use Rattle.tb_task.specs.TaskId.{id_text, IsRead}
use Rattle.tb_task.specs.declared.extra.Extra.{Extra}
use Rattle.tb_task.specs.declared.extra.ExtraValue.{ExtraValue}
use Rattle.tb_task.specs.declared.extra.ExtraValue.TheVariants.{Text, Whole, Truth, Null}
use Rattle.tb_task.specs.declared.priority.Priority.{Priority}
use Rattle.tb_task.specs.declared.priority.Priority.TheVariants.{High, Medium, Low}
use Rattle.tb_task.specs.declared.status.Status.{Status}
use Rattle.tb_task.specs.declared.status.Status.TheVariants.{Pending, Waiting, Recurring, Completed, Deleted}
use Rattle.tb_task.specs.declared.task.Annotation.{Annotation}
use Rattle.tb_json.specs.Annotations.{annotation_form, annotations_of, annotations_form}
use Rattle.tb_json.specs.Attribute.{unless_blank, optional, moment_form, id_form, text_form, status_form, priority_form}
use Rattle.tb_json.specs.Extras.{value_form, extra_form, extras_of}
use Rattle.tb_json.specs.Lists.{texts_of, ids_of, with_ids, tags_form, depends_form}
use Rattle.tb_values.specs.Texts.{with_texts}
use Rattle.tb_json.specs.Numbers.{imask_form, small}
use Rattle.tb_json.specs.Writing.{moment_data, id_data, status_data, priority_data, imask_data, items_of_texts, texts_data, items_of_ids, ids_data, annotation_data, items_of_annotations, annotations_data, value_data, with_fields, extra_fields}
use Rattle.tb_json.proofs.ExtraSteps.{names_of}
use Rattle.tb_json.proofs.Names.{names}
use Rattle.tb_json.proofs.ReadBack.{joined, joined-nothing, joined-joined, put_last, sorted_on}
use Rattle.tb_values.proofs.TextSets.{text_cmp}

-- a value that was written under a name, as reading is given it
abbrev pub given_again : Option Data → Option Data
given_again o = option_and_then unless_blank o

given_text : (s : List ℕ) → IsNotEmpty s → unless_blank (string s) ≡ Some (string s)
given_text [] h = absurd (omega arith)
given_text (c ∷ cs) h = refl

-- ---- single attributes

pub moment_again : (name : List ℕ) (o : Option ℕ) → IfSome o IsMoment → optional moment_form name (given_again (option_map moment_data o)) ≡ Ok o
moment_again name None h = refl
moment_again name (Some m) h =
    let long = length-moment_text m h in
    rw (given_text (moment_text m) (omega arith), read_text m h) refl

pub id_again : IsRead → (name : List ℕ) (o : Option ℕ) → IfSome o IsId → optional id_form name (given_again (option_map id_data o)) ≡ Ok o
id_again law name None h = refl
id_again law name (Some id) h =
    let long = length-id_text id in
    rw (given_text (id_text id) (omega arith), law id h) refl

pub text_again : (name : List ℕ) (o : Option (List ℕ)) → IfSome o IsNotEmpty → optional text_form name (given_again (option_map string o)) ≡ Ok o
text_again name None h = refl
text_again name (Some s) h = rw (given_text s h) refl

pub status_again : (name : List ℕ) (s : Status) → optional status_form name (given_again (Some (status_data s))) ≡ Ok (Some s)
unfolding status_of
status_again name Pending = refl
status_again name Waiting = refl
status_again name Recurring = refl
status_again name Completed = refl
status_again name Deleted = refl

pub priority_again : (name : List ℕ) (o : Option Priority) → optional priority_form name (given_again (option_map priority_data o)) ≡ Ok (option_map Some o)
unfolding priority_of
priority_again name None = refl
priority_again name (Some High) = refl
priority_again name (Some Medium) = refl
priority_again name (Some Low) = refl

pub imask_again : (o : Option ℕ) → IfSome o (λ n. n < 2 ^ 32) → option_and_then imask_form (given_again (option_map imask_data o)) ≡ o
imask_again None h = refl
imask_again (Some n) h = rw (le-leb n 4294967295 (omega arith)) refl

-- ---- sets in order

below_last : {K : Type 0} (cmp : K → K → Ordering) (first : K) (xs : List K) (k : K) (ys : List K) → AllByRecursion (λ y. cmp first y ≡ Less) (xs ++ k ∷ ys) → cmp first k ≡ Less
below_last cmp first [] k ys h = h.0
below_last cmp first (x ∷ xs) k ys h = below_last cmp first xs k ys h.1

-- a key above those before it goes last
key_last : {K : Type 0} (cmp : K → K → Ordering) → IsTotalOrder cmp → (done : List K) (k : K) (ks : List K) → IsStrictlySortedBy cmp (done ++ k ∷ ks) → insert_key cmp done k ≡ done ++ k ∷ []
unfolding IsStrictlySortedBy
key_last cmp total [] k ks h = refl
key_last cmp total (x ∷ done) k ks h =
    let above : cmp k x ≡ Greater = total.antisymm k x ∙ ap ordering_reverse (below_last cmp x done k ks h.0) in
    rw above (ap (λ rest. x ∷ rest) (key_last cmp total done k ks h.1))

texts_in_order : (ts done : List (List ℕ)) → IsStrictlySortedBy text_cmp (done ++ ts) → with_texts done ts ≡ done ++ ts
texts_in_order [] done h = sym (append-nil done)
texts_in_order (t ∷ ts) done h = rw (key_last text_cmp nat_list_cmp_total done t ts h) (texts_in_order ts (done ++ t ∷ []) (rw append_assoc h) ∙ append_assoc done (t ∷ []) ts)

ids_in_order : (ids done : List ℕ) → IsStrictlySortedBy nat_cmp (done ++ ids) → with_ids done ids ≡ done ++ ids
ids_in_order [] done h = sym (append-nil done)
ids_in_order (id ∷ ids) done h = rw (key_last nat_cmp nat_cmp_total done id ids h) (ids_in_order ids (done ++ id ∷ []) (rw append_assoc h) ∙ append_assoc done (id ∷ []) ids)

-- nothing is written of an empty list
abbrev pub unless_none : {A : Type 0} → List A → Option (List A)
unless_none [] = None
unless_none (x ∷ xs) = Some (x ∷ xs)

pub unwrap_unless : {A : Type 0} (xs : List A) → unwrap_or (unless_none xs) [] ≡ xs
unwrap_unless [] = refl
unwrap_unless (x ∷ xs) = refl

texts_again : (ts done : List (List ℕ)) → texts_of done (items_of_texts ts) ≡ Some (done ++ ts)
texts_again [] done = ap Some (sym (append-nil done))
texts_again (t ∷ ts) done = texts_again ts (done ++ t ∷ []) ∙ ap Some (append_assoc done (t ∷ []) ts)

pub tags_again : (name : List ℕ) (ts : List (List ℕ)) → IsStrictlySortedBy text_cmp ts → optional tags_form name (given_again (texts_data ts)) ≡ Ok (unless_none ts)
tags_again name [] h = refl
tags_again name (t ∷ ts) h = rw (texts_again (t ∷ ts) [], texts_in_order (t ∷ ts) [] h) refl

abbrev texts_of_ids : List ℕ → List (List ℕ)
texts_of_ids ids = map id_text ids

id_texts_again : (ids : List ℕ) (done : List (List ℕ)) → texts_of done (items_of_ids ids) ≡ Some (done ++ texts_of_ids ids)
id_texts_again [] done = ap Some (sym (append-nil done))
id_texts_again (id ∷ ids) done = id_texts_again ids (done ++ id_text id ∷ []) ∙ ap Some (append_assoc done (id_text id ∷ []) (texts_of_ids ids))

ids_again : IsRead → (ids done : List ℕ) → AllByRecursion IsId ids → ids_of done (texts_of_ids ids) ≡ Some (done ++ ids)
ids_again law [] done h = ap Some (sym (append-nil done))
ids_again law (id ∷ ids) done h = rw (law id h.0) (ids_again law ids (done ++ id ∷ []) h.1 ∙ ap Some (append_assoc done (id ∷ []) ids))

pub depends_again : IsRead → (name : List ℕ) (ids : List ℕ) → IsStrictlySortedBy nat_cmp ids → AllByRecursion IsId ids → optional depends_form name (given_again (ids_data ids)) ≡ Ok (unless_none ids)
depends_again law name [] h small = refl
depends_again law name (id ∷ ids) h small = rw (id_texts_again (id ∷ ids) [], ids_again law (id ∷ ids) [] small, ids_in_order (id ∷ ids) [] h) refl

-- ---- annotations

annotation_again : (a : Annotation) → IsMoment a.entry → annotation_form (annotation_data a) ≡ Some a
unfolding annotation_data
annotation_again a h = rw (read_text a.entry h) refl

notes_again : (notes done : List Annotation) → AllByRecursion (λ (a : Annotation). IsMoment a.entry) notes → annotations_of done (items_of_annotations notes) ≡ Some (done ++ notes)
notes_again [] done h = ap Some (sym (append-nil done))
notes_again (a ∷ notes) done h = rw (annotation_again a h.0) (notes_again notes (done ++ a ∷ []) h.1 ∙ ap Some (append_assoc done (a ∷ []) notes))

pub annotations_again : (name : List ℕ) (notes : List Annotation) → AllByRecursion (λ (a : Annotation). IsMoment a.entry) notes → optional annotations_form name (given_again (annotations_data notes)) ≡ Ok (unless_none notes)
annotations_again name [] h = refl
annotations_again name (a ∷ notes) h = rw (notes_again (a ∷ notes) [] h) refl

-- ---- extra attributes by themselves

abbrev pub in_order : List Extra → Members
in_order [] = no_members
in_order (e ∷ es) = member e.name (value_data e.value) (in_order es)

pub extras-in_order : (es : List Extra) (done : Members) → IsStrictlySortedBy text_cmp (names done ++ names_of es) → with_fields (extra_fields es) done ≡ joined done (in_order es)
extras-in_order [] done s = sym (joined-nothing done)
extras-in_order (e ∷ es) done s =
    let d = value_data e.value in
    ap (with_fields (extra_fields es)) (put_last done e.name d (names_of es) s)
    ∙ extras-in_order es (joined done (member e.name d no_members)) (sorted_on done e.name d (names_of es) s)
    ∙ joined-joined done (member e.name d no_members) (in_order es)

value_again : (v : ExtraValue) → IsValue v → value_form (value_data v) ≡ Some v
value_again (Text s) h = refl
value_again (Whole (pos n)) h = rw (lt-ltb n (2 ^ 63) h)
value_again (Whole (negsuc n)) h = refl
value_again (Truth b) h = refl
value_again Null h = refl

not_zero : (n : ℕ) → 1 ≤ n → (n == 0) ≡ false
not_zero n h =
    elim (cases_Bool (n == 0)) [
      | inl e ↦ absurd (let z = eqb-true n 0 e in omega arith)
      | inr e ↦ e
    ]

extra_again : (e : Extra) → IsStorableExtra e → extra_form e.name (value_data e.value) ≡ Some e.value
extra_again e h = rw (not_zero (length e.name) h.named) (value_again e.value h.value)

pub extras_again : (es : List Extra) → AllByRecursion IsStorableExtra es → extras_of (in_order es) ≡ es
extras_again [] h = refl
extras_again (e ∷ es) h = rw (h.0.own, extra_again e h.0) (ap (λ rest. e ∷ rest) (extras_again es h.1))
