-- The JSON of a line has no float, so its text is known.
use Rattle.std.proofs.Common.{◌≡◌, ℕ, List, [], ◌∷◌, Bool, true, false, ◌||◌, Option, Some, None, option_map, Ordering, Less, Equal, Greater, nat_cmp, refl}
use Rattle.std.specs.Cmp.Lexicographic.{slice_cmp}
use Rattle.std.specs.Ordering.{match_ordering}
use Rattle.serde_json.specs.Data.{Data, Members, no_members, member, put}
use Rattle.serde_json.specs.Written.{has_float, items_have_float, members_have_float}
use Rattle.tb_json.specs.Writing.{Field, with_field, with_fields, items_of_texts, texts_data}
use Rattle.tb_task.specs.declared.task.Task.{Task}
use Rattle.tb_todotxt.specs.Making.{task_of}
use Rattle.tb_todotxt.specs.declared.line.LineParts.{LineParts}
use Rattle.tb_client.specs.Line.{early_fields, late_fields, line_data, line_members, status_said}

left_false : (a b : Bool) → a || b ≡ false → a ≡ false
left_false true b h = h
left_false false b h = refl

right_false : (a b : Bool) → a || b ≡ false → b ≡ false
right_false true b h = absurd (cc)
right_false false b h = h

put_at : (o : Ordering) (k l : List ℕ) (d e : Data) (ms rest : Members) → has_float d ≡ false → has_float e ≡ false → members_have_float ms ≡ false
    → members_have_float rest ≡ false
    → members_have_float (match_ordering o (member k d (member l e ms)) (member l d ms) (member l e rest)) ≡ false
put_at Less k l d e ms rest hd he hm hr = rw (hd, he, hm)
put_at Equal k l d e ms rest hd he hm hr = rw (hd, hm)
put_at Greater k l d e ms rest hd he hm hr = rw (he, hr)

put_none : (k : List ℕ) (d : Data) (ms : Members) → has_float d ≡ false → members_have_float ms ≡ false → members_have_float (put k d ms) ≡ false
put_none k d no_members hd hm = rw hd
put_none k d (member l e ms) hd hm =
    let first = left_false (has_float e) _ hm in
    let rest = right_false (has_float e) _ hm in
    put_at (slice_cmp nat_cmp k l) k l d e ms (put k d ms) hd first rest (put_none k d ms hd rest)

-- the field has no float
abbrev pub IsFloatless : Option Data → Type 0
IsFloatless None = Unit {0}
IsFloatless (Some d) = has_float d ≡ false

abbrev pub AreFloatless : List Field → Type 0
AreFloatless [] = Unit {0}
AreFloatless (f ∷ fs) = IsFloatless f.1 × AreFloatless fs

field_none : (name : List ℕ) (o : Option Data) (ms : Members) → IsFloatless o → members_have_float ms ≡ false → members_have_float (with_field name o ms) ≡ false
field_none name None ms h hm = hm
field_none name (Some d) ms h hm = put_none name d ms h hm

fields_none : (fs : List Field) (ms : Members) → AreFloatless fs → members_have_float ms ≡ false → members_have_float (with_fields fs ms) ≡ false
fields_none [] ms h hm = hm
fields_none (f ∷ fs) ms h hm = fields_none fs (with_field f.0 f.1 ms) h.1 (field_none f.0 f.1 ms h.0 hm)

-- what is no float where it is there
option_none : {A : Type 0} (f : A → Data) (o : Option A) → ((a : A) → has_float (f a) ≡ false) → IsFloatless (option_map f o)
option_none f None h = tt
option_none f (Some a) h = h a

texts_none : (ts : List (List ℕ)) → items_have_float (items_of_texts ts) ≡ false
texts_none [] = refl
texts_none (t ∷ ts) = texts_none ts

tags_none : (ts : List (List ℕ)) → IsFloatless (texts_data ts)
tags_none [] = tt
tags_none (t ∷ ts) = texts_none ts

status_none : (task : Task) (done : Bool) → IsFloatless (status_said task done)
status_none task true = refl
status_none task false = tt

early_none : (line : LineParts) (task : Task) → AreFloatless (early_fields line task)
early_none line task =
    (refl, (option_none _ task.due (λ a. refl), (option_none _ _ (λ a. refl), (option_none _ _ (λ a. refl), (option_none _ task.priority (λ a. refl), tt)))))

late_none : (line : LineParts) (task : Task) → AreFloatless (late_fields line task)
late_none line task =
    (option_none _ task.project (λ a. refl), (status_none task line.done, (tags_none task.tags, (option_none _ _ (λ a. refl), tt))))

pub no_float : (line : LineParts) → has_float (line_data line) ≡ false
unfolding line_members
no_float line =
    let task = task_of line 0 1 0 in
    fields_none (late_fields line task) _ (late_none line task) (fields_none (early_fields line task) no_members (early_none line task) refl)
