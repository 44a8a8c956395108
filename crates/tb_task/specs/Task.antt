-- A pending task that says nothing but its description.
use Rattle.std.specs.Prelude.{ℕ, List, [], None}
use Rattle.tb_task.specs.declared.status.Status.TheVariants.{Pending}
use Rattle.tb_task.specs.declared.task.Task.{Task}

abbrev pub new_task : ℕ → ℕ → List ℕ → Task
new_task id entry description = record {
  id = id;
  status = Pending;
  entry = entry;
  modified = None;
  start = None;
  end = None;
  due = None;
  wait = None;
  scheduled = None;
  until = None;
  description = description;
  project = None;
  priority = None;
  tags = [];
  annotations = [];
  depends = [];
  recur = None;
  parent = None;
  imask = None;
  extras = [];
}
