-- What the statements on the histories do to the content, which rows they ask for, and in which order.
use Rattle.std.specs.Prelude.{ℕ, Bool, false, ◌∷◌, Option, Some, None, nat_le, ◌<◌, ◌==◌, ◌&&◌}
use Rattle.tb_sql_tables.specs.declared.rows.HistoryRow.{HistoryRow}
use Rattle.tb_sql_tables.specs.Content.{Content}

-- a row that goes in
abbrev pub with_entry : HistoryRow → Content → Content
with_entry row content = record content { history = row ∷ content.history }

-- those of a board from one number to another
abbrev pub is_entry_between : ℕ → ℕ → ℕ → HistoryRow → Bool
is_entry_between board first last row =
    (row.board == board) && (nat_le first row.number && nat_le row.number last)

-- this place is there
abbrev pub names_place : ℕ → Option ℕ → Bool
names_place place None = false
names_place place (Some other) = other == place

-- those of the task at a place of a board
abbrev pub is_entry_of : ℕ → ℕ → HistoryRow → Bool
is_entry_of board place row = (row.board == board) && names_place place row.task

-- the order of the entries of a board
abbrev pub IsEntryBefore : HistoryRow → HistoryRow → Type 0
IsEntryBefore a b = a.number < b.number

-- the order of numbers alone
abbrev pub IsBelow : ℕ → ℕ → Type 0
IsBelow a b = a < b
