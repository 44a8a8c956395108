-- What the rows of a board's history tell of its entries.
use Rattle.std.specs.Prelude.{◌≡◌, ◌⊎◌, ℕ, List, map}
use Rattle.std.specs.List.{AllByRecursion}
use Rattle.tb_board.specs.declared.board.Board.{Board}
use Rattle.tb_board.specs.Tasks.{ids}
use Rattle.tb_calls.specs.Call.{State}
use Rattle.tb_calls.specs.History.{content_in}
use Rattle.tb_deeds.specs.declared.kind.DeedKind.{DeedKind}
use Rattle.tb_deeds.specs.declared.kind.DeedKind.TheVariants.{Import, ImportTodo}
use Rattle.tb_history.specs.declared.entry.Entry.{Entry}
use Rattle.tb_history.specs.declared.page.ShownEntry.{ShownEntry}
use Rattle.tb_history.specs.declared.page.Which.{Which}
use Rattle.tb_history.specs.History.{entries_on, numbered}
use Rattle.tb_history.specs.Pages.{chosen, shown_entry}
use Rattle.tb_sql_tables.specs.declared.rows.HistoryRow.{HistoryRow}
use Rattle.tb_lookup.specs.Stored.{entry_row, IsEntryOf}

-- these are the rows of those entries of a board that are looked at
abbrev pub AreChosen : State → ℕ → Which → List HistoryRow → Type 0
AreChosen s board which rows =
    rows ≡ map (entry_row s.world board) (chosen which (numbered 1 (entries_on s.history board)))

-- this is the entry with a number whose row it is, if it is that of one
abbrev pub IsReadBy : State → HistoryRow → Entry → Type 0
IsReadBy s row entry = (board : ℕ) (e : ℕ × Entry) → IsEntryOf s board e.1
    → row ≡ entry_row s.world board e → entry ≡ e.1

-- this is how that entry is shown on the board
abbrev pub IsShown : State → Board → HistoryRow → ShownEntry → Type 0
IsShown s b row shown = (e : ℕ × Entry) → IsEntryOf s b.number e.1
    → row ≡ entry_row s.world b.number e → shown ≡ shown_entry (content_in s) (ids b.tasks) e

-- and these are how those entries are shown whose rows they are
abbrev pub AreShown : State → Board → List HistoryRow → List ShownEntry → Type 0
AreShown s b rows shown = (es : List (ℕ × Entry))
    → AllByRecursion (λ (e : ℕ × Entry). IsEntryOf s b.number e.1) es
    → rows ≡ map (entry_row s.world b.number) es
    → shown ≡ map (shown_entry (content_in s) (ids b.tasks)) es

-- an import of one of both forms
abbrev pub IsImport : DeedKind → Type 0
IsImport what = (what ≡ Import) ⊎ (what ≡ ImportTodo)
