-- What a row of a history reads as. The columns stand in the order of the table's.
use Rattle.std.specs.Prelude.{ℕ, pos, Option, Some, None}
use Rattle.sqlite_value.specs.declared.value.Value.{Value}
use Rattle.sqlite_value.specs.declared.value.Value.TheVariants.{Int}
use Rattle.sqlite_value.specs.Order.{Row, column}
use Rattle.tb_sql_tables.specs.declared.rows.HistoryRow.{HistoryRow}
use Rattle.tb_sql_tables.specs.Read.{number_of, identifier_of}

-- a place, where there is one
abbrev pub place_of : Value → Option ℕ
place_of (Int (pos n)) = Some n
place_of _ = None

abbrev pub history_of : Row → HistoryRow
history_of cells = record {
  board = number_of (column cells 0);
  number = number_of (column cells 1);
  moment = number_of (column cells 2);
  person = number_of (column cells 3);
  call = identifier_of (column cells 4);
  what = number_of (column cells 5);
  task = place_of (column cells 6);
}
