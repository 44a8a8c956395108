-- The edits that a JSON object asks for, by the names of its members.
use Rattle.std.specs.Prelude.{ℕ, ◌==◌, List, [], ◌∷◌, ◌++◌, Bool, Option, Some, None, option_map, option_and_then, Result, Ok, Err, codes, length, bytes_eq, if◌then◌else◌}
use Rattle.std.specs.List.{list_any}
use Rattle.serde_json.specs.Data.{Data, null, boolean, number, string, array, object, Members, no_members, member}
use Rattle.serde_json.specs.Find.{as_i64, as_str}
use Rattle.tb_values.specs.Outcome.{◌>>=◌}
use Rattle.tb_task.specs.Attributes.{is_attribute}
use Rattle.tb_task.specs.Priority.{priority_of}
use Rattle.tb_task.specs.declared.edit.Edit.{Edit}
use Rattle.tb_task.specs.declared.edit.Given.{Given}
use Rattle.tb_task.specs.declared.edit.Given.TheVariants.{Text, Moment, Priority, Tags, Number, Truth}
use Rattle.tb_json.specs.Attribute.{unless_blank, moment_form, text_form}
use Rattle.tb_json.specs.Lists.{tags_form}
use Rattle.tb_json.specs.declared.fault.JsonFault.{JsonFault}
use Rattle.tb_json.specs.declared.fault.JsonFault.TheVariants.{NotObject, BadField}

-- ---- the values: nothing where one is wrong, and no value where the attribute is removed

abbrev pub text_setting : Data → Option Given
text_setting d = option_map Text (text_form d)

abbrev pub moment_setting : Data → Option Given
moment_setting d = option_map Moment (moment_form d)

-- here another text is wrong
abbrev pub priority_setting : Data → Option Given
priority_setting d = option_map Priority (option_and_then priority_of (as_str d))

abbrev pub tags_setting : Data → Option Given
tags_setting d = option_map Tags (tags_form d)

-- null removes an attribute that the format doesn't know
abbrev pub extra_setting : Data → Option (Option Given)
extra_setting null = Some None
extra_setting (boolean b) = Some (Some (Truth b))
extra_setting (number n) = option_map (λ z. Some (Number z)) (as_i64 n)
extra_setting (string s) = Some (Some (Text s))
extra_setting (array ds) = None
extra_setting (object ms) = None

abbrev pub is_text_name : List ℕ → Bool
is_text_name name = list_any (bytes_eq name) (codes "project" ∷ codes "recur" ∷ [])

abbrev pub is_moment_name : List ℕ → Bool
is_moment_name name =
    list_any (bytes_eq name) (codes "due" ∷ codes "scheduled" ∷ codes "until" ∷ codes "wait" ∷ [])

-- an attribute that may be removed
unfoldable pub removable_form : List ℕ → Data → Option Given
removable_form name d =
    if is_text_name name then text_setting d
    else (if is_moment_name name then moment_setting d
    else (if bytes_eq name (codes "priority") then priority_setting d else tags_setting d))

-- Rule: null removes these attributes alone. Refused as BadBody. Tried by bad_edits.
abbrev pub is_removable : List ℕ → Bool
is_removable name =
    list_any (bytes_eq name)
    (codes "due" ∷ codes "priority" ∷ codes "project" ∷ codes "recur" ∷ codes "scheduled"
    ∷ codes "tags" ∷ codes "until" ∷ codes "wait" ∷ [])

-- null and the empty text remove it
abbrev pub unless_removed : List ℕ → Option Data → Option (Option Given)
unless_removed name None = Some None
unless_removed name (Some d) = option_map Some (removable_form name d)

-- the description can't be removed, and the other attributes of the format can't be named
unfoldable pub setting_of : List ℕ → Data → Option (Option Given)
setting_of name d =
    if bytes_eq name (codes "description") then option_map Some (text_setting d)
    else (if is_removable name then unless_removed name (unless_blank d)
    else (if is_attribute name then None else extra_setting d))

-- ---- the edits, in byte order of the names

abbrev pub well_set : List ℕ → Option (Option Given) → Result Edit JsonFault
well_set name None = Err (BadField name)
well_set name (Some value) = Ok (record { name = name; value = value })

-- a member with the empty name is wrong
abbrev pub edit_of : List ℕ → Data → Result Edit JsonFault
edit_of name d = if length name == 0 then Err (BadField name) else well_set name (setting_of name d)

-- the members' edits after those found, or the first fault
abbrev pub edits_of : List Edit → Members → Result (List Edit) JsonFault
edits_of found no_members = Ok found
edits_of found (member name d ms) = edit_of name d >>= λ e. edits_of (found ++ e ∷ []) ms

abbrev pub modify_of : Data → Result (List Edit) JsonFault
modify_of null = Err NotObject
modify_of (boolean b) = Err NotObject
modify_of (number n) = Err NotObject
modify_of (string s) = Err NotObject
modify_of (array ds) = Err NotObject
modify_of (object ms) = edits_of [] ms
