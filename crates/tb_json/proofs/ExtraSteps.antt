-- The loop over an object's members.
use Rattle.std.proofs.Common.{◌≡◌, ℕ, ◌+◌, List, [], ◌∷◌, ◌++◌, map, Bool, true, false, cond, Option, Some, None, Less, Greater, refl, ap, ◌∙◌, append_assoc, String, Global, string_bytes, string_cmp, zero-add, ◌<◌, lit<, arith}
use Rattle.std.proofs.lemmas.Cmp.{nat_list_cmp_total}
use Rattle.std.specs.List.{AllByRecursion}
use Rattle.std.specs.List.Sorted.{IsStrictlySortedBy}
use Rattle.std.specs.Map.{keys_of}
use Rattle.std.specs.Ordering.{ordering_reverse}
use Rattle.serde_json.specs.Data.{Data, Members, no_members, member}
use Rattle.serde_json.specs.View.{members_view}
use Rattle.serde_json.specs.declared.value.Value.{Value}
use Rattle.tb_task.specs.Attributes.{is_attribute}
use Rattle.tb_task.specs.declared.extra.Extra.{Extra}
use Rattle.tb_task.specs.declared.extra.ExtraValue.{ExtraValue}
use Rattle.tb_json.specs.Extras.{extra_form, before, extras_of, one_if_none, one_more_if_none, dropped_of, capped, put_extra, with_extra, with_member, dropped_with}
use Rattle.tb_json.proofs.Names.{names, below_later, ordered_without}
use Rattle.tb_values.proofs.TextSets.{text_cmp}

abbrev pub names_of : List Extra → List (List ℕ)
names_of es = map (λ e. e.name) es

-- the members up to the rest have been taken
pub record SoFar (extras : List Extra) (dropped : ℕ) (rest all : Members) : Type 0 where
  pub kept : extras ++ extras_of rest ≡ extras_of all
  pub count : capped (dropped + dropped_of rest) ≡ capped (dropped_of all)
  pub small : dropped < 4294967296
  pub ordered : IsStrictlySortedBy text_cmp (names_of extras ++ names rest)

-- a name above those before it goes last
insert_last : (es : List Extra) (e : Extra) (ys : List (List ℕ)) → IsStrictlySortedBy text_cmp (names_of es ++ e.name ∷ ys) → put_extra es e ≡ es ++ e ∷ []
unfolding IsStrictlySortedBy
insert_last [] e ys h = refl
insert_last (x ∷ es) e ys h =
    let above : text_cmp e.name x.name ≡ Greater = nat_list_cmp_total.antisymm e.name x.name ∙ ap ordering_reverse (below_later x.name (names_of es) e.name ys h.0) in
    rw above (ap (λ rest. x ∷ rest) (insert_last es e ys h.1))

map-append : (xs ys : List Extra) → names_of (xs ++ ys) ≡ names_of xs ++ names_of ys
map-append [] ys = refl
map-append (x ∷ xs) ys = ap (λ zs. x.name ∷ zs) (map-append xs ys)

-- one extra more
step_extra : (o : Option ExtraValue) (es : List Extra) (n : ℕ) (name : List ℕ) (rest all : Members)
    → es ++ before name o (extras_of rest) ≡ extras_of all → capped (n + (one_if_none o + dropped_of rest)) ≡ capped (dropped_of all) → n < 4294967296 → IsStrictlySortedBy text_cmp (names_of es ++ name ∷ names rest)
    → SoFar (with_extra es name o) (one_more_if_none n o) rest all
step_extra None es n name rest all kept count small ordered = record { kept = kept; count = omega arith; small = omega arith; ordered = ordered_without (names_of es) name (names rest) ordered }
step_extra (Some value) es n name rest all kept count small ordered =
    let last = insert_last es (record { name = name; value = value }) (names rest) ordered in
    record {
      kept = rw last (append_assoc es _ _ ∙ kept);
      count = omega arith;
      small = small;
      ordered = rw (last, map-append, append_assoc) ordered;
    }

step_at : (b : Bool) (o : Option ExtraValue) (es : List Extra) (n : ℕ) (name : List ℕ) (rest all : Members)
    → es ++ cond b (extras_of rest) (before name o (extras_of rest)) ≡ extras_of all → capped (n + cond b (dropped_of rest) (one_if_none o + dropped_of rest)) ≡ capped (dropped_of all) → n < 4294967296 → IsStrictlySortedBy text_cmp (names_of es ++ name ∷ names rest)
    → SoFar (cond b es (with_extra es name o)) (cond b n (one_more_if_none n o)) rest all
step_at true o es n name rest all kept count small ordered = record { kept = kept; count = count; small = small; ordered = ordered_without (names_of es) name (names rest) ordered }
step_at false o es n name rest all kept count small ordered = step_extra o es n name rest all kept count small ordered

-- one member more
pub SoFar-more : (es : List Extra) (n : ℕ) (name : List ℕ) (d : Data) (rest all : Members) → SoFar es n (member name d rest) all → SoFar (with_member es name d) (dropped_with n name d) rest all
SoFar-more es n name d rest all s = step_at (is_attribute name) (extra_form name d) es n name rest all s.kept s.count s.small s.ordered

-- ---- the whole loop

-- the members of a map have names in byte order
all_names : (k : String Global) (es : List (String Global × Value)) → AllByRecursion (λ y. string_cmp k y ≡ Less) (keys_of es) → AllByRecursion (λ y. text_cmp (string_bytes k) y ≡ Less) (names (members_view es))
all_names k [] h = tt
all_names k (e ∷ es) h = (h.0, all_names k es h.1)

names-members : (es : List (String Global × Value)) → IsStrictlySortedBy string_cmp (keys_of es) → IsStrictlySortedBy text_cmp (names (members_view es))
unfolding IsStrictlySortedBy
names-members [] h = tt
names-members (e ∷ es) h = (all_names e.0 es h.0, names-members es h.1)

pub SoFar-none : (es : List (String Global × Value)) → IsStrictlySortedBy string_cmp (keys_of es) → SoFar [] 0 (members_view es) (members_view es)
SoFar-none es h = record { kept = refl; count = rw zero-add; small = lit< tt; ordered = names-members es h }

pub SoFar-count : (es : List Extra) (n : ℕ) (all : Members) → SoFar es n no_members all → n ≡ capped (dropped_of all)
SoFar-count es n all s = let e = s.count in let small = s.small in omega arith
