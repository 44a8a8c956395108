-- How many bytes a call writes.
use Rattle.std.specs.Prelude.{ℕ, ◌+◌, ◌-◌, ◌^◌, ◌==◌, ◌||◌, Bool, true, false, if◌then◌else◌, List, fold, length, min, Option, Some, None}
use Rattle.tb_calls.specs.declared.keep.Written.{Written}
use Rattle.tb_deeds.specs.declared.deed.Deed.{Deed}
use Rattle.tb_deeds.specs.declared.kind.DeedKind.{DeedKind}
use Rattle.tb_deeds.specs.declared.kind.DeedKind.TheVariants.{Import, ImportTodo}
use Rattle.tb_sql.specs.declared.changes.RowChange.{RowChange}
use Rattle.tb_sql.specs.declared.changes.RowChange.TheVariants.{AddTask, SetText}
use Rattle.tb_sql_tables.specs.declared.rows.KeptRow.{KeptRow}
use Rattle.tb_keeper.specs.declared.writing.CallRows.{CallRows}
use Rattle.tb_keeper.specs.declared.written_bytes.TheConstants.{NO_BYTES, OVERHEAD}

-- a sum, or the largest number
abbrev pub bounded : ℕ → ℕ
bounded sum = min sum (2 ^ 64 - 1)

abbrev pub with_more : Written → Written → Written
with_more before more = record {
  own = bounded (before.own + more.own);
  swept = bounded (before.swept + more.swept);
}

abbrev pub own_bytes : List ℕ → Written
own_bytes text = record { own = length text; swept = 0 }

abbrev pub swept_bytes : List ℕ → Written
swept_bytes text = record { own = 0; swept = length text }

-- an import names all tasks that it writes
abbrev pub names_all : DeedKind → Bool
names_all Import = true
names_all ImportTodo = true
names_all _ = false

-- the place before which there are so many
abbrev pub is_after : Option ℕ → ℕ → Bool
is_after None place = false
is_after (Some before) place = bounded (before + 1) == place

-- a call of this deed names the task at a place, counted from 1
abbrev pub names_task : Option Deed → ℕ → Bool
names_task None place = false
names_task (Some deed) place = names_all deed.what || is_after deed.place place

-- the text of a task that the call names, or of an instance that came by its sweep
abbrev pub bytes_of_change : Option Deed → RowChange → Written
bytes_of_change deed (AddTask task) =
    if names_task deed task.place then own_bytes task.body else swept_bytes task.body
bytes_of_change deed (SetText board place body mask) =
    if names_task deed place then own_bytes body else NO_BYTES
bytes_of_change deed _ = NO_BYTES

-- the content of a call, its reply, and what each call costs
abbrev pub bytes_of_reply : KeptRow → Written
bytes_of_reply kept = record {
  own = bounded (bounded (length kept.content + length kept.body) + OVERHEAD);
  swept = 0;
}

abbrev pub bytes_of_call : CallRows → Option Deed → Written
bytes_of_call rows deed =
    fold (λ sum change. with_more sum (bytes_of_change deed change)) (bytes_of_reply rows.kept)
    rows.changes
