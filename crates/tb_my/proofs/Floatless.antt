-- The JSON of a body has no float, so its text is known.
use Rattle.std.proofs.Common.{◌≡◌, ℕ, List, [], ◌∷◌, Bool, true, false, ◌||◌, Option, Some, None, Ordering, Less, Equal, Greater, codes, option_map, if◌then◌else◌, nat_cmp, refl}
use Rattle.std.specs.Str.{bytes_eq}
use Rattle.std.specs.Cmp.Lexicographic.{slice_cmp}
use Rattle.std.specs.Ordering.{match_ordering}
use Rattle.serde_json.specs.Data.{Data, null, string, Members, no_members, member, put}
use Rattle.serde_json.specs.Written.{has_float, items_have_float, members_have_float}
use Rattle.tb_json.specs.Writing.{id_data, items_of_texts, with_field, texts_data}
use Rattle.tb_my.specs.Body.{add_data, added_id, back_data, change_data, value_data, with_description, with_new_tags, with_old_description, with_old_settings, with_old_value, with_setting, with_settings, with_tags_before, with_tags_said}
use Rattle.tb_my.specs.Old.{old_named}
use Rattle.tb_my.specs.declared.look.Seen.{Seen}
use Rattle.tb_my.specs.declared.old.Old.{Old}
use Rattle.tb_my.specs.Tags.{tags_after}
use Rattle.tb_my.specs.declared.part.Setting.{Setting}
use Rattle.tb_my.specs.declared.said.Said.{Said}

left_false : (a b : Bool) → a || b ≡ false → a ≡ false
left_false true b h = h
left_false false b h = refl

right_false : (a b : Bool) → a || b ≡ false → b ≡ false
right_false true b h = absurd (cc)
right_false false b h = h

put_at : (o : Ordering) (k l : List ℕ) (d e : Data) (ms rest : Members) → has_float d ≡ false → has_float e ≡ false → members_have_float ms ≡ false
    → members_have_float rest ≡ false
    → members_have_float (match_ordering o (member k d (member l e ms)) (member l d ms) (member l e rest)) ≡ false
put_at Less k l d e ms rest hd he hm hr = rw (hd, he, hm)
put_at Equal k l d e ms rest hd he hm hr = rw (hd, hm)
put_at Greater k l d e ms rest hd he hm hr = rw (he, hr)

put_none : (k : List ℕ) (d : Data) (ms : Members) → has_float d ≡ false → members_have_float ms ≡ false → members_have_float (put k d ms) ≡ false
put_none k d no_members hd hm = rw hd
put_none k d (member l e ms) hd hm =
    let first = left_false (has_float e) _ hm in
    let rest = right_false (has_float e) _ hm in
    put_at (slice_cmp nat_cmp k l) k l d e ms (put k d ms) hd first rest (put_none k d ms hd rest)

value_none : (value : Option (List ℕ)) → has_float (value_data value) ≡ false
value_none None = refl
value_none (Some value) = refl

settings_none : (settings : List Setting) (ms : Members) → members_have_float ms ≡ false → members_have_float (with_settings settings ms) ≡ false
settings_none [] ms hm = hm
settings_none (s ∷ settings) ms hm = settings_none settings (with_setting s ms) (put_none s.name (value_data s.value) ms (value_none s.value) hm)

texts_none : (ts : List (List ℕ)) → items_have_float (items_of_texts ts) ≡ false
texts_none [] = refl
texts_none (t ∷ ts) = texts_none ts

tags_none : (name : List ℕ) (ts : List (List ℕ)) (ms : Members) → members_have_float ms ≡ false → members_have_float (with_field name (texts_data ts) ms) ≡ false
tags_none name [] ms hm = hm
tags_none name (t ∷ ts) ms hm = put_none name _ ms (texts_none ts) hm

new_none : (ts : List (List ℕ)) (ms : Members) → members_have_float ms ≡ false → members_have_float (with_new_tags ts ms) ≡ false
new_none [] ms hm = put_none (codes "tags") null ms refl hm
new_none (t ∷ ts) ms hm = tags_none (codes "tags") (t ∷ ts) ms hm

said_none : (tags added taken : List (List ℕ)) (ms : Members) → members_have_float ms ≡ false → members_have_float (with_tags_said tags added taken ms) ≡ false
said_none tags [] [] ms hm = hm
said_none tags (t ∷ added) taken ms hm = new_none (tags_after tags (t ∷ added) taken) ms hm
said_none tags [] (t ∷ taken) ms hm = new_none (tags_after tags [] (t ∷ taken)) ms hm

described_none : (text : List ℕ) (ms : Members) → members_have_float ms ≡ false → members_have_float (with_description text ms) ≡ false
described_none text ms hm = by (bytes_eq text [])
  where
    by : (b : Bool) → members_have_float (if b then ms else put (codes "description") (string text) ms) ≡ false
    by true = hm
    by false = put_none (codes "description") (string text) ms refl hm

id_none : (id : Option ℕ) (ms : Members) → members_have_float ms ≡ false → members_have_float (with_field (codes "uuid") (option_map id_data id) ms) ≡ false
id_none None ms hm = hm
id_none (Some id) ms hm = put_none (codes "uuid") (id_data id) ms refl hm

pub add_no_float : (call : Option ℕ) (said : Said) → has_float (add_data call said) ≡ false
add_no_float call said =
    id_none (added_id call) _ (settings_none said.settings _ (tags_none (codes "tags") said.tags _ (described_none said.description no_members refl)))

pub change_no_float : (tags : List (List ℕ)) (description : List ℕ) (said : Said) → has_float (change_data tags description said) ≡ false
change_no_float tags description said =
    settings_none said.settings _ (said_none tags said.tags said.untagged _ (described_none description no_members refl))

before_none : (tags added taken : List (List ℕ)) (ms : Members) → members_have_float ms ≡ false → members_have_float (with_tags_before tags added taken ms) ≡ false
before_none tags [] [] ms hm = hm
before_none tags (t ∷ added) taken ms hm = new_none tags ms hm
before_none tags [] (t ∷ taken) ms hm = new_none tags ms hm

old_none : (old : Old) (settings : List Setting) (ms : Members) → members_have_float ms ≡ false → members_have_float (with_old_settings old settings ms) ≡ false
old_none old [] ms hm = hm
old_none old (s ∷ settings) ms hm =
    old_none old settings (with_old_value old s.name ms) (put_none s.name (value_data (old_named old s.name)) ms (value_none (old_named old s.name)) hm)

old_description_none : (task : Seen) (said : Said) (ms : Members) → members_have_float ms ≡ false → members_have_float (with_old_description task said ms) ≡ false
old_description_none task said ms hm = by (bytes_eq said.description [])
  where
    by : (b : Bool) → members_have_float (if b then ms else put (codes "description") (string task.description) ms) ≡ false
    by true = hm
    by false = put_none (codes "description") (string task.description) ms refl hm

pub back_no_float : (task : Seen) (said : Said) → has_float (back_data task said) ≡ false
back_no_float task said =
    old_none task.old said.settings _ (before_none task.tags said.tags said.untagged _ (old_description_none task said no_members refl))
