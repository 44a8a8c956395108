-- Extra attributes: the members of names that the task format doesn't know.
use Rattle.std.specs.Prelude.{ℕ, ◌+◌, ◌==◌, min, List, [], ◌∷◌, Option, Some, None, option_map, length, if◌then◌else◌}
use Rattle.std.specs.BTreeSet.{replace_key}
use Rattle.serde_json.specs.Data.{Data, null, boolean, number, string, array, object, Members, no_members, member}
use Rattle.serde_json.specs.Find.{as_i64}
use Rattle.tb_task.specs.Attributes.{is_attribute}
use Rattle.tb_task.specs.Extra.{by_name}
use Rattle.tb_task.specs.declared.extra.Extra.{Extra}
use Rattle.tb_task.specs.declared.extra.ExtraValue.{ExtraValue}
use Rattle.tb_task.specs.declared.extra.ExtraValue.TheVariants.{Text, Whole, Truth, Null}

-- what the value of an extra attribute says
-- Rule: an extra is a text, a 64-bit number, a truth value or null. Tried by json_attributes.
abbrev pub value_form : Data → Option ExtraValue
value_form null = Some Null
value_form (boolean b) = Some (Truth b)
value_form (number n) = option_map Whole (as_i64 n)
value_form (string s) = Some (Text s)
value_form (array ds) = None
value_form (object ms) = None

-- a member with the empty name is no extra attribute
abbrev pub extra_form : List ℕ → Data → Option ExtraValue
extra_form name d = if length name == 0 then None else value_form d

abbrev pub before : List ℕ → Option ExtraValue → List Extra → List Extra
before name None rest = rest
before name (Some value) rest = record { name = name; value = value } ∷ rest

-- the extra attributes, by name
abbrev pub extras_of : Members → List Extra
extras_of no_members = []
extras_of (member name d ms) = if is_attribute name then extras_of ms
    else before name (extra_form name d) (extras_of ms)

abbrev pub one_if_none : {A : Type 0} → Option A → ℕ
one_if_none None = 1
one_if_none (Some a) = 0

-- how many members of other names have no form
abbrev pub dropped_of : Members → ℕ
dropped_of no_members = 0
dropped_of (member name d ms) = if is_attribute name then dropped_of ms
    else one_if_none (extra_form name d) + dropped_of ms

-- a count of 32 bits, which stays at its greatest
abbrev pub capped : ℕ → ℕ
capped n = min n 4294967295

-- ---- for private clauses: one member more

-- the attribute goes to the place of its name
abbrev pub put_extra : List Extra → Extra → List Extra
put_extra extras extra = replace_key by_name extras extra

abbrev pub with_extra : List Extra → List ℕ → Option ExtraValue → List Extra
with_extra extras name None = extras
with_extra extras name (Some value) = put_extra extras (record { name = name; value = value })

abbrev pub with_member : List Extra → List ℕ → Data → List Extra
with_member extras name d = if is_attribute name then extras
    else with_extra extras name (extra_form name d)

abbrev pub one_more_if_none : {A : Type 0} → ℕ → Option A → ℕ
one_more_if_none n None = capped (n + 1)
one_more_if_none n (Some a) = n

abbrev pub dropped_with : ℕ → List ℕ → Data → ℕ
dropped_with n name d = if is_attribute name then n else one_more_if_none n (extra_form name d)
