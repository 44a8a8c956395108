-- The bodies of the calls that add and change tasks.
use Rattle.std.specs.Prelude.{ℕ, List, [], ◌∷◌, codes, Option, Some, None, option_map, if◌then◌else◌}
use Rattle.std.specs.Str.{bytes_eq}
use Rattle.serde_json.specs.Data.{Data, null, string, object, Members, no_members, put}
use Rattle.tb_json.specs.Writing.{id_data, texts_data, with_field}
use Rattle.tb_my.specs.Days.{Text}
use Rattle.tb_my.specs.Old.{old_named}
use Rattle.tb_my.specs.Tags.{tags_after}
use Rattle.tb_my.specs.declared.look.Seen.{Seen}
use Rattle.tb_my.specs.declared.old.Old.{Old}
use Rattle.tb_my.specs.declared.part.Setting.{Setting}
use Rattle.tb_my.specs.declared.said.Said.{Said}
use Rattle.tb_task.specs.TaskId.{named_id}

-- what is removed is null
abbrev pub value_data : Option Text → Data
value_data None = null
value_data (Some value) = string value

abbrev pub with_setting : Setting → Members → Members
with_setting setting members = put setting.name (value_data setting.value) members

-- of two that set the same, the last one counts
abbrev pub with_settings : List Setting → Members → Members
with_settings [] members = members
with_settings (setting ∷ settings) members = with_settings settings (with_setting setting members)

-- where words say one
abbrev pub with_description : Text → Members → Members
with_description description members = if bytes_eq description [] then members
    else put (codes "description") (string description) members

-- the identifier of the task that a call adds, made of that of the call
-- Rule: a call that adds a task and is sent again names the same task. Tried by my.sh.
abbrev pub added_id : Option ℕ → Option ℕ
added_id None = None
added_id (Some call) = Some (named_id call (codes "task"))

abbrev pub add_data : Option ℕ → Said → Data
add_data call said = object (with_field (codes "uuid") (option_map id_data (added_id call))
    (with_settings said.settings
    (with_field (codes "tags") (texts_data said.tags)
    (with_description said.description no_members))))

abbrev pub with_new_tags : List Text → Members → Members
with_new_tags [] members = put (codes "tags") null members
with_new_tags (tag ∷ tags) members =
    with_field (codes "tags") (texts_data (tag ∷ tags)) members

-- tags that are added, and tags that are taken
abbrev pub with_tags_said : List Text → List Text → List Text → Members → Members
with_tags_said tags [] [] members = members
with_tags_said tags (tag ∷ added) taken members =
    with_new_tags (tags_after tags (tag ∷ added) taken) members
with_tags_said tags [] (tag ∷ taken) members =
    with_new_tags (tags_after tags [] (tag ∷ taken)) members

abbrev pub with_changed_tags : List Text → Said → Members → Members
with_changed_tags tags said members = with_tags_said tags said.tags said.untagged members

-- what words say nothing of stays
abbrev pub change_data : List Text → Text → Said → Data
change_data tags description said = object (with_settings said.settings
    (with_changed_tags tags said (with_description description no_members)))

-- ---- what a task was before

abbrev pub with_old_description : Seen → Said → Members → Members
with_old_description task said members = if bytes_eq said.description [] then members
    else put (codes "description") (string task.description) members

abbrev pub with_tags_before : List Text → List Text → List Text → Members → Members
with_tags_before tags [] [] members = members
with_tags_before tags (tag ∷ added) taken members = with_new_tags tags members
with_tags_before tags [] (tag ∷ taken) members = with_new_tags tags members

abbrev pub with_old_tags : Seen → Said → Members → Members
with_old_tags task said members = with_tags_before task.tags said.tags said.untagged members

abbrev pub with_old_value : Old → Text → Members → Members
with_old_value old name members = put name (value_data (old_named old name)) members

abbrev pub with_old_settings : Old → List Setting → Members → Members
with_old_settings old [] members = members
with_old_settings old (setting ∷ settings) members =
    with_old_settings old settings (with_old_value old setting.name members)

-- what words changed is as it was
-- Rule: `tb undo` gives a changed task its old values. Tried by my.sh.
abbrev pub back_data : Seen → Said → Data
back_data task said = object (with_old_settings task.old said.settings
    (with_old_tags task said (with_old_description task said no_members)))
