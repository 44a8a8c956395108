-- Which task a JSON value is when it comes in at a moment: its attributes, what they are where they are absent, and the rules between them.
use Rattle.std.specs.Prelude.{ℕ, ◌+◌, ◌&&◌, ◌||◌, Bool, true, false, not, Option, Some, None, Result, Ok, is_some, nat_lt, unwrap_or, if◌then◌else◌}
use Rattle.serde_json.specs.Data.{Data}
use Rattle.tb_values.specs.Outcome.{◌>>=◌}
use Rattle.tb_task.specs.Checks.{is_recurring, is_step}
use Rattle.tb_task.specs.declared.incoming.Incoming.{Incoming}
use Rattle.tb_task.specs.declared.status.Status.{Status}
use Rattle.tb_task.specs.declared.status.Status.TheVariants.{Pending, Waiting, Recurring, Completed, Deleted}
use Rattle.tb_json.specs.Extras.{capped}
use Rattle.tb_json.specs.Fields.{fields_of}
use Rattle.tb_json.specs.declared.fault.JsonFault.{JsonFault}
use Rattle.tb_json.specs.declared.fields.Fields.{Fields}

abbrev pub is_deleted : Status → Bool
is_deleted Pending = false
is_deleted Waiting = false
is_deleted Recurring = false
is_deleted Completed = false
is_deleted Deleted = true

abbrev pub is_closed : Status → Bool
is_closed Pending = false
is_closed Waiting = false
is_closed Recurring = false
is_closed Completed = true
is_closed Deleted = true

-- a task with a step and no parent is a template
-- Rule: without a status a task is pending, or recurring. Tried by tasks_read.
abbrev pub default_status : Fields → Status
default_status f = if is_some f.second.recur && not (is_some f.second.parent) then Recurring
    else Pending

-- the attributes as they were read: what is absent is empty, the identifier zero, and the task was entered at the moment m
unfoldable pub drafted : ℕ → Fields → Incoming
drafted m f = record {
  task = record {
    id = unwrap_or f.third.uuid 0;
    status = unwrap_or f.third.status (default_status f);
    entry = unwrap_or f.first.entry m;
    modified = f.second.modified;
    start = f.third.start;
    end = f.first.end;
    due = f.first.due;
    wait = f.third.wait;
    scheduled = f.third.scheduled;
    until = f.third.until;
    description = f.first.description;
    project = f.second.project;
    priority = f.second.priority;
    tags = f.third.tags;
    annotations = f.first.annotations;
    depends = f.first.depends;
    recur = f.second.recur;
    parent = None;
    imask = None;
    extras = f.extras;
  };
  named = is_some f.third.uuid;
  raw_parent = f.second.parent;
  raw_imask = f.second.imask;
  raw_mask = f.second.mask;
  dropped = f.dropped;
}

-- one more is dropped where there was one
abbrev pub counted : {A : Type 0} → ℕ → Option A → ℕ
counted n None = n
counted n (Some a) = capped (n + 1)

abbrev pub without_parent : Incoming → Incoming
without_parent i = record i { raw_parent = None; dropped = counted i.dropped i.raw_parent }

abbrev pub without_imask : Incoming → Incoming
without_imask i = record i { raw_imask = None; dropped = counted i.dropped i.raw_imask }

abbrev pub is_deleted_template : Incoming → Bool
is_deleted_template i =
    is_deleted i.task.status && is_some i.task.recur && not (is_some i.raw_parent)

-- (1) a template is no instance
unfoldable pub with_fit_link : Incoming → Incoming
with_fit_link i =
    if is_recurring i.task.status then without_imask (without_parent i)
    else (if is_deleted_template i then without_imask i else i)

abbrev pub may_recur : Incoming → Bool
may_recur i = is_some i.raw_parent || is_recurring i.task.status
    || (is_deleted i.task.status && is_some i.task.due && is_step i.task.recur)

-- (2) a step without a parent stays with a template alone
unfoldable pub with_fit_recur : Incoming → Incoming
with_fit_recur i = if may_recur i then i
    else record i {
      task = record i.task { recur = None };
      dropped = counted i.dropped i.task.recur;
    }

abbrev pub is_template : Incoming → Bool
is_template i = is_some i.task.recur && not (is_some i.raw_parent)

-- (3) and so does a mask
unfoldable pub with_fit_mask : Incoming → Incoming
with_fit_mask i = if is_template i then i
    else record i { raw_mask = None; dropped = counted i.dropped i.raw_mask }

-- (4) a closed task has an end, and an open one none
unfoldable pub with_fit_end : ℕ → Incoming → Incoming
with_fit_end m i =
    if is_closed i.task.status
    then record i { task = record i.task { end = Some (unwrap_or i.task.end m) } }
    else record i { task = record i.task { end = None }; dropped = counted i.dropped i.task.end }

abbrev pub is_later : ℕ → Option ℕ → Bool
is_later m None = false
is_later m (Some wait) = nat_lt m wait

abbrev pub waiting_if : Bool → Status
waiting_if true = Waiting
waiting_if false = Pending

-- pending or waiting by the moment
abbrev pub settled_status : Bool → Status → Status
settled_status later Pending = waiting_if later
settled_status later Waiting = waiting_if later
settled_status later Recurring = Recurring
settled_status later Completed = Completed
settled_status later Deleted = Deleted

-- (5) a task waits until its moment has come
unfoldable pub settled : ℕ → Incoming → Incoming
settled m i =
    record i {
      task = record i.task {
        status = settled_status
            (is_later m i.task.wait) i.task.status;
      };
    }

-- the rules, one after another
-- Rule: what doesn't go together is left out and counted. Tried by tasks_read.
unfoldable pub incoming_of : ℕ → Fields → Incoming
incoming_of m f =
    settled m (with_fit_end m (with_fit_mask (with_fit_recur (with_fit_link (drafted m f)))))

-- the task that a JSON value is at a moment, or the first fault by name
abbrev pub task_of : ℕ → Data → Result Incoming JsonFault
task_of m d = fields_of d >>= λ f. Ok (incoming_of m f)
