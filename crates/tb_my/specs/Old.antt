-- What a task has before it is changed.
use Rattle.std.specs.Prelude.{List, [], ◌∷◌, ◌++◌, codes, Option, Some, None, if◌then◌else◌}
use Rattle.std.specs.Str.{bytes_eq}
use Rattle.serde_json.specs.Data.{Data}
use Rattle.tb_my.specs.Days.{Text}
use Rattle.tb_my.specs.Shown.{text_at}
use Rattle.tb_my.specs.declared.old.Old.{Old}
use Rattle.tb_my.specs.declared.part.Setting.{Setting}

abbrev pub old_of : Data → Old
old_of task = record {
  due = text_at (codes "due") task;
  wait = text_at (codes "wait") task;
  scheduled = text_at (codes "scheduled") task;
  until = text_at (codes "until") task;
  priority = text_at (codes "priority") task;
  project = text_at (codes "project") task;
  assignee = text_at (codes "assignee") task;
  status = text_at (codes "status") task;
}

-- what an attribute is set to
unfoldable pub old_named : Old → Text → Option Text
old_named old name =
    if bytes_eq name (codes "due") then old.due
    else if bytes_eq name (codes "wait") then old.wait
    else if bytes_eq name (codes "scheduled") then old.scheduled
    else if bytes_eq name (codes "until") then old.until
    else if bytes_eq name (codes "priority") then old.priority
    else if bytes_eq name (codes "project") then old.project
    else if bytes_eq name (codes "assignee") then old.assignee
    else None

abbrev pub with_old : List Setting → Text → Option Text → List Setting
with_old settings name None = settings
with_old settings name (Some value) =
    settings ++ (record { name = name; value = Some value }) ∷ []

-- what a copy of the task has
abbrev pub copied_settings : Old → List Setting
copied_settings old =
    with_old (with_old (with_old (with_old (with_old (with_old (with_old []
    (codes "due") old.due)
    (codes "wait") old.wait)
    (codes "scheduled") old.scheduled)
    (codes "until") old.until)
    (codes "priority") old.priority)
    (codes "project") old.project)
    (codes "assignee") old.assignee
