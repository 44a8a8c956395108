-- Tasks as the texts of a store: the JSON without a mask, and nothing made up in reading.
use Rattle.std.specs.Prelude.{ℕ, List, Option, Some, None, Result, Ok, Err, codes}
use Rattle.serde_json.specs.Data.{Data}
use Rattle.serde_json.specs.Read.{read}
use Rattle.serde_json.specs.Written.{compact_text}
use Rattle.tb_values.specs.Outcome.{◌>>=◌}
use Rattle.tb_task.specs.declared.task.Task.{Task}
use Rattle.tb_json.specs.Attribute.{well_formed}
use Rattle.tb_json.specs.Fields.{fields_of}
use Rattle.tb_json.specs.Writing.{task_json}
use Rattle.tb_json.specs.declared.fault.JsonFault.{JsonFault}
use Rattle.tb_json.specs.declared.fault.JsonFault.TheVariants.{NotObject}
use Rattle.tb_json.specs.declared.fields.Fields.{Fields}

abbrev pub stored_text : Task → List ℕ
stored_text t = compact_text (task_json None t)

-- entry, status and uuid have to be there
unfoldable pub stored_task : Fields → Result Task JsonFault
stored_task f = do
  entry ← well_formed (codes "entry") f.first.entry
  status ← well_formed (codes "status") f.third.status
  id ← well_formed (codes "uuid") f.third.uuid
  Ok (record {
    id = id;
    status = status;
    entry = entry;
    modified = f.second.modified;
    start = f.third.start;
    end = f.first.end;
    due = f.first.due;
    wait = f.third.wait;
    scheduled = f.third.scheduled;
    until = f.third.until;
    description = f.first.description;
    project = f.second.project;
    priority = f.second.priority;
    tags = f.third.tags;
    annotations = f.first.annotations;
    depends = f.first.depends;
    recur = f.second.recur;
    parent = f.second.parent;
    imask = f.second.imask;
    extras = f.extras;
  })

-- a text that is no JSON is no object
abbrev pub stored_in : Option Data → Result Task JsonFault
stored_in None = Err NotObject
stored_in (Some d) = fields_of d >>= stored_task

-- the task that a text is, or its first fault by name
abbrev pub stored_of : List ℕ → Result Task JsonFault
stored_of text = stored_in (read text)
