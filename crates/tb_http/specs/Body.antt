-- The small JSON objects that are the bodies of calls. Each has exactly the members that are named here.
use Rattle.std.specs.Prelude.{ℕ, suc, ◌==◌, Bool, false, List, codes, Option, Some, None, option_map, option_and_then, unwrap_or, ◌||◌, if◌then◌else◌}
use Rattle.std.specs.Str.{bytes_eq}
use Rattle.serde_json.specs.Data.{Data, null, boolean, number, string, array, object, Members, no_members, member}
use Rattle.serde_json.specs.Find.{get, as_number, as_str, as_object, as_u64}
use Rattle.tb_task.specs.TaskId.{read_id}

-- how many members there are
abbrev pub count_members : Members → ℕ
count_members no_members = 0
count_members (member name d ms) = suc (count_members ms)

-- an object of so many members, each of which has a name of its own
-- Rule: a body has these members and no other. Refused as BadBody. Tried by person_bodies.
abbrev pub has_members : ℕ → Data → Bool
has_members count d = unwrap_or (option_map (λ ms. count_members ms == count) (as_object d)) false

-- the text of the member of this name
abbrev pub text_at : List ℕ → Data → Option (List ℕ)
text_at name d = option_and_then as_str (get name d)

-- the whole number of the member of this name
abbrev pub number_at : List ℕ → Data → Option ℕ
number_at name d = option_and_then as_u64 (option_and_then as_number (get name d))

-- both, if both are there
abbrev pub both : {A B : Type 0} → Option A → Option B → Option (A × B)
both None b = None
both (Some a) None = None
both (Some a) (Some b) = Some (a, b)

-- the name and the key of a new person
abbrev pub person_in : Data → Option (List ℕ × List ℕ)
person_in d = if has_members 2 d
    then both (text_at (codes "name") d) (text_at (codes "key") d) else None

-- the old and the new key of who sends it
abbrev pub own_key_in : Data → Option (List ℕ × List ℕ)
own_key_in d = if has_members 2 d
    then both (text_at (codes "old") d) (text_at (codes "key") d) else None

-- a key, or null for none
abbrev pub key_or_null : Data → Option (Option (List ℕ))
key_or_null null = Some None
key_or_null (string key) = Some (Some key)
key_or_null (boolean b) = None
key_or_null (number n) = None
key_or_null (array ds) = None
key_or_null (object ms) = None

-- the key that a person is given, or none
-- Rule: null is no key, and a missing member is no body. Refused as BadBody. Tried by key_bodies.
abbrev pub key_in : Data → Option (Option (List ℕ))
key_in d = if has_members 1 d then option_and_then key_or_null (get (codes "key") d) else None

-- the title of a board
abbrev pub title_in : Data → Option (List ℕ)
title_in d = if has_members 1 d then text_at (codes "title") d else None

-- a role's word, or null for none
abbrev pub is_role : List ℕ → Bool
is_role word = bytes_eq word (codes "owner")
    || (bytes_eq word (codes "member") || bytes_eq word (codes "reader"))

abbrev pub role_word : Data → Option (Option (List ℕ))
role_word null = Some None
role_word (string word) = if is_role word then Some (Some word) else None
role_word (boolean b) = None
role_word (number n) = None
role_word (array ds) = None
role_word (object ms) = None

-- whose role is set, and to which
abbrev pub role_in : Data → Option (List ℕ × Option (List ℕ))
role_in d =
    if has_members 2 d
    then both (text_at (codes "member") d)
    (option_and_then role_word (get (codes "role") d)) else None

-- how many instances ahead a board is to look
abbrev pub ahead_in : Data → Option ℕ
ahead_in d = if has_members 1 d then number_at (codes "ahead") d else None

-- the text of an annotation that is added or removed
abbrev pub description_in : Data → Option (List ℕ)
description_in d = if has_members 1 d then text_at (codes "description") d else None

-- the task to which a link is added, or whose link is removed
abbrev pub link_in : Data → Option ℕ
link_in d = if has_members 1 d then option_and_then read_id (text_at (codes "on") d) else None
