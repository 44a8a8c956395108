-- What is found at a name among members that were put in one after another.
use Rattle.std.proofs.Common.{◌≡◌, ℕ, List, [], ◌∷◌, Bool, true, false, cond, true≢false, Option, Some, None, Ordering, Less, Equal, Greater, is_eq, bytes_eq, refl, sym, ap, ◌∙◌}
use Rattle.std.proofs.lemmas.Map.Text.{is_eq-slice_cmp}
use Rattle.std.proofs.lemmas.Slice.Eq.{bytes_eq-Decides}
use Rattle.std.specs.List.{AllByRecursion}
use Rattle.std.specs.Ordering.{match_ordering}
use Rattle.serde_json.specs.Data.{Data, Members, no_members, member, put}
use Rattle.serde_json.specs.Find.{get_member}
use Rattle.serde_json.proofs.Views.{get_member-put, get_member-put_other}
use Rattle.tb_task.specs.Attributes.{is_attribute}
use Rattle.tb_task.specs.Storable.{IsStorableExtra}
use Rattle.tb_task.specs.declared.extra.Extra.{Extra}
use Rattle.tb_json.specs.Extras.{extras_of}
use Rattle.tb_json.specs.Writing.{Field, with_field, with_fields, value_data, extra_fields}
use Rattle.tb_values.proofs.TextSets.{text_cmp}

abbrev pub or_else : Option Data → Option Data → Option Data
or_else None base = base
or_else (Some d) base = Some d

abbrev pub value_in : List ℕ → List Field → Option Data → Option Data
value_in q [] base = base
value_in q (f ∷ fs) base = value_in q fs (cond (bytes_eq q f.0) (or_else f.1 base) base)

same_either : (b : Bool) (x : Option Data) → x ≡ cond b x x
same_either true x = refl
same_either false x = refl

put_at : (b : Bool) (q k : List ℕ) (d : Data) (ms : Members) → bytes_eq q k ≡ b → get_member q (put k d ms) ≡ cond b (Some d) (get_member q ms)
put_at true q k d ms e = let same = (bytes_eq-Decides q k).0 e in rw same (get_member-put k d ms)
put_at false q k d ms e = get_member-put_other q k d ms (λ same. true≢false (sym ((bytes_eq-Decides q k).1 same) ∙ e))

field_at : (q k : List ℕ) (o : Option Data) (ms : Members) → get_member q (with_field k o ms) ≡ cond (bytes_eq q k) (or_else o (get_member q ms)) (get_member q ms)
field_at q k None ms = same_either (bytes_eq q k) (get_member q ms)
field_at q k (Some d) ms = put_at (bytes_eq q k) q k d ms refl

pub fields_at : (q : List ℕ) (fs : List Field) (ms : Members) → get_member q (with_fields fs ms) ≡ value_in q fs (get_member q ms)
fields_at q [] ms = refl
fields_at q (f ∷ fs) ms = fields_at q fs (with_field f.0 f.1 ms) ∙ ap (value_in q fs) (field_at q f.0 f.1 ms)

pub or_nothing : (o : Option Data) → or_else o None ≡ o
or_nothing None = refl
or_nothing (Some d) = refl

other_name : (b : Bool) (q k : List ℕ) → bytes_eq q k ≡ b → is_attribute q ≡ true → is_attribute k ≡ false → b ≡ false
other_name true q k e known unknown = absurd (true≢false (sym known ∙ ap is_attribute ((bytes_eq-Decides q k).0 e) ∙ unknown))
other_name false q k e known unknown = refl

-- no extra attribute has the name of an attribute
pub extras_at : (q : List ℕ) (es : List Extra) → is_attribute q ≡ true → AllByRecursion IsStorableExtra es → (base : Option Data) → value_in q (extra_fields es) base ≡ base
extras_at q [] known h base = refl
extras_at q (e ∷ es) known h base =
    ap (λ b. value_in q (extra_fields es) (cond b (Some (value_data e.value)) base)) (other_name (bytes_eq q e.name) q e.name refl known h.0.own) ∙ extras_at q es known h.1 base

-- ---- attributes are no extra attributes

same_name : (k l : List ℕ) → text_cmp k l ≡ Equal → k ≡ l
same_name k l e = (bytes_eq-Decides k l).0 (sym (is_eq-slice_cmp k l) ∙ ap is_eq e)

extras-put_at : (o : Ordering) (k l : List ℕ) (d e : Data) (ms rest : Members) → text_cmp k l ≡ o → is_attribute k ≡ true → extras_of rest ≡ extras_of ms
    → extras_of (match_ordering o (member k d (member l e ms)) (member l d ms) (member l e rest)) ≡ extras_of (member l e ms)
extras-put_at Less k l d e ms rest is known same = rw known
extras-put_at Equal k l d e ms rest is known same = rw (sym (ap is_attribute (same_name k l is)) ∙ known)
extras-put_at Greater k l d e ms rest is known same = rw same

extras-put : (k : List ℕ) (d : Data) (ms : Members) → is_attribute k ≡ true → extras_of (put k d ms) ≡ extras_of ms
extras-put k d no_members known = rw known
extras-put k d (member l e ms) known = extras-put_at (text_cmp k l) k l d e ms (put k d ms) refl known (extras-put k d ms known)

abbrev pub AreAttributes : List Field → Type 0
AreAttributes [] = Unit {0}
AreAttributes (f ∷ fs) = (is_attribute f.0 ≡ true) × AreAttributes fs

extras-with_field : (k : List ℕ) (o : Option Data) (ms : Members) → is_attribute k ≡ true → extras_of (with_field k o ms) ≡ extras_of ms
extras-with_field k None ms known = refl
extras-with_field k (Some d) ms known = extras-put k d ms known

pub extras-with_fields : (fs : List Field) (ms : Members) → AreAttributes fs → extras_of (with_fields fs ms) ≡ extras_of ms
extras-with_fields [] ms h = refl
extras-with_fields (f ∷ fs) ms h = extras-with_fields fs (with_field f.0 f.1 ms) h.1 ∙ extras-with_field f.0 f.1 ms h.0
