-- The attributes of a task in JSON, read in byte order of their names, so that the first fault is the first faulty name.
use Rattle.std.specs.Prelude.{◌+◌, [], option_and_then, Result, Ok, Err, codes, unwrap_or}
use Rattle.serde_json.specs.Data.{Data, null, boolean, number, string, array, object, Members}
use Rattle.tb_json.specs.Annotations.{annotations_form}
use Rattle.tb_json.specs.Attribute.{given, attribute, required, text_form, moment_form, id_form, status_form, mask_form, priority_in}
use Rattle.tb_json.specs.Extras.{extras_of, dropped_of, capped}
use Rattle.tb_json.specs.Lists.{tags_form, depends_form}
use Rattle.tb_json.specs.Numbers.{imask_form}
use Rattle.tb_values.specs.Outcome.{◌>>=◌}
use Rattle.tb_json.specs.declared.fault.JsonFault.{JsonFault}
use Rattle.tb_json.specs.declared.fault.JsonFault.TheVariants.{NotObject}
use Rattle.tb_json.specs.declared.fields.FieldsToEntry.{FieldsToEntry}
use Rattle.tb_json.specs.declared.fields.FieldsToRecur.{FieldsToRecur}
use Rattle.tb_json.specs.declared.fields.FieldsToWait.{FieldsToWait}
use Rattle.tb_json.specs.declared.fields.Fields.{Fields}

-- from annotations to entry
unfoldable pub fields_to_entry : Data → Result FieldsToEntry JsonFault
fields_to_entry d = do
  annotations ← attribute annotations_form (codes "annotations") d
  depends ← attribute depends_form (codes "depends") d
  description ← required text_form (codes "description") d
  due ← attribute moment_form (codes "due") d
  end ← attribute moment_form (codes "end") d
  entry ← attribute moment_form (codes "entry") d
  Ok (record {
    annotations = unwrap_or annotations [];
    depends = unwrap_or depends [];
    description = description;
    due = due;
    end = end;
    entry = entry;
  })

-- from imask, which is never a fault, to recur
unfoldable pub fields_to_recur : Data → Result FieldsToRecur JsonFault
fields_to_recur d = do
  mask ← attribute mask_form (codes "mask") d
  modified ← attribute moment_form (codes "modified") d
  parent ← attribute id_form (codes "parent") d
  priority ← priority_in d
  project ← attribute text_form (codes "project") d
  recur ← attribute text_form (codes "recur") d
  Ok (record {
    imask = option_and_then imask_form (given (codes "imask") d);
    mask = mask;
    modified = modified;
    parent = parent;
    priority = priority.0;
    priorities_dropped = priority.1;
    project = project;
    recur = recur;
  })

-- from scheduled to wait
unfoldable pub fields_to_wait : Data → Result FieldsToWait JsonFault
fields_to_wait d = do
  scheduled ← attribute moment_form (codes "scheduled") d
  start ← attribute moment_form (codes "start") d
  status ← attribute status_form (codes "status") d
  tags ← attribute tags_form (codes "tags") d
  until ← attribute moment_form (codes "until") d
  uuid ← attribute id_form (codes "uuid") d
  wait ← attribute moment_form (codes "wait") d
  Ok (record {
    scheduled = scheduled;
    start = start;
    status = status;
    tags = unwrap_or tags [];
    until = until;
    uuid = uuid;
    wait = wait;
  })

unfoldable pub fields_in : Data → Members → Result Fields JsonFault
fields_in d ms = do
  first ← fields_to_entry d
  second ← fields_to_recur d
  third ← fields_to_wait d
  Ok (record {
    first = first;
    second = second;
    third = third;
    extras = extras_of ms;
    dropped = capped (dropped_of ms + second.priorities_dropped);
  })

-- what a JSON value says of a task, or the first fault by name
abbrev pub fields_of : Data → Result Fields JsonFault
fields_of null = Err NotObject
fields_of (boolean b) = Err NotObject
fields_of (number n) = Err NotObject
fields_of (string s) = Err NotObject
fields_of (array ds) = Err NotObject
fields_of (object ms) = fields_in (object ms) ms
