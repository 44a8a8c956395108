-- What a commit writes beside the changes of the world.
use Rattle.std.specs.Prelude.{List, [], ◌∷◌, length, Option, Some, None}
use Rattle.tb_calls.specs.declared.call.Call.{Call}
use Rattle.tb_calls.specs.Call.{State}
use Rattle.tb_deeds.specs.declared.deed.Deed.{Deed}
use Rattle.tb_history.specs.History.{entries_on}
use Rattle.tb_sql.specs.declared.changes.RowChange.{RowChange}
use Rattle.tb_sql.specs.declared.changes.RowChange.TheVariants.{AddEntry}
use Rattle.tb_sql.specs.Writing.{written}
use Rattle.tb_sql_tables.specs.declared.rows.HistoryRow.{HistoryRow}
use Rattle.tb_sql_tables.specs.Content.{Content}
use Rattle.tb_lookup.specs.Stored.{noted_row, AreRowsOf}
use Rattle.tb_keeper.specs.declared.writing.CallRows.{CallRows}

-- the row of what a call did on a board: the next entry of that board
abbrev pub deed_row : State → Call → Deed → HistoryRow
deed_row s c deed = noted_row s.world c deed (length (entries_on s.history deed.board))

abbrev pub entry_changes : Option HistoryRow → List RowChange
entry_changes None = []
entry_changes (Some row) = AddEntry row ∷ []

-- where the rows of the one state stand, those of the other stand once these are written
abbrev pub LeadTo : State → State → CallRows → Type 0
LeadTo s later rows = (content : Content) → AreRowsOf s content
    → AreRowsOf later (written rows.changes rows.kept content)
