-- What the rows of a query read as. The columns stand in the order of the table's.
use Rattle.std.specs.Prelude.{◌≡◌, ◌<◌, ◌^◌, ◌⊎◌, List, [], length, ℕ, pos, IsUtf8, Option, Some, None}
use Rattle.std.specs.Int.{from_be_bytes, w128}
use Rattle.sqlite_value.specs.declared.value.Value.{Value}
use Rattle.sqlite_value.specs.declared.value.Value.TheVariants.{Null, Int, Text as Words, Blob as Bytes}
use Rattle.sqlite_value.specs.Order.{Row, column}
use Rattle.tb_sql_tables.specs.declared.rows.MetaRow.{MetaRow}
use Rattle.tb_sql_tables.specs.declared.rows.PersonRow.{PersonRow}
use Rattle.tb_sql_tables.specs.declared.rows.BoardRow.{BoardRow}
use Rattle.tb_sql_tables.specs.declared.rows.RoleRow.{RoleRow}
use Rattle.tb_sql_tables.specs.declared.rows.TaskRow.{TaskRow}
use Rattle.tb_sql_tables.specs.declared.rows.LinkRow.{LinkRow}
use Rattle.tb_sql_tables.specs.declared.rows.InstanceRow.{InstanceRow}
use Rattle.tb_sql_tables.specs.declared.rows.GoneRow.{GoneRow}
use Rattle.tb_sql_tables.specs.declared.rows.KeptRow.{KeptRow}
use Rattle.tb_sql_tables.specs.declared.rows.HorizonRow.{HorizonRow}

-- ---- a value of the type that the column has

abbrev pub number_of : Value → ℕ
number_of (Int (pos n)) = n
number_of _ = 0

abbrev pub words_of : Value → List ℕ
words_of (Words text) = text
words_of _ = []

abbrev pub bytes_of : Value → List ℕ
bytes_of (Bytes bytes) = bytes
bytes_of _ = []

abbrev pub identifier_of : Value → ℕ
identifier_of value = from_be_bytes w128 (bytes_of value)

abbrev pub mask_of : Value → Option (List ℕ)
mask_of (Words text) = Some text
mask_of _ = None

-- ---- a row

abbrev pub meta_of : Row → MetaRow
meta_of cells = record { kind = words_of (column cells 0); version = number_of (column cells 1) }

abbrev pub person_of : Row → PersonRow
person_of cells =
    record {
      id = number_of (column cells 0);
      name = words_of (column cells 1);
      secret = words_of (column cells 2);
    }

abbrev pub board_of : Row → BoardRow
board_of cells =
    record {
      id = number_of (column cells 0);
      title = words_of (column cells 1);
      low = number_of (column cells 2);
    }

abbrev pub role_of : Row → RoleRow
role_of cells = record {
  board = number_of (column cells 0);
  person = number_of (column cells 1);
  kind = number_of (column cells 2);
}

abbrev pub task_of : Row → TaskRow
task_of cells = record {
  board = number_of (column cells 0);
  place = number_of (column cells 1);
  uuid = identifier_of (column cells 2);
  body = words_of (column cells 3);
  mask = mask_of (column cells 4);
}

abbrev pub link_of : Row → LinkRow
link_of cells = record {
  board = number_of (column cells 0);
  place = number_of (column cells 1);
  target = number_of (column cells 2);
}

abbrev pub instance_of : Row → InstanceRow
instance_of cells =
    record {
      board = number_of (column cells 0);
      template = number_of (column cells 1);
      imask = number_of (column cells 2);
      place = number_of (column cells 3);
    }

abbrev pub gone_of : Row → GoneRow
gone_of cells = record {
  board = number_of (column cells 0);
  template = number_of (column cells 1);
  imask = number_of (column cells 2);
  mark = words_of (column cells 3);
}

abbrev pub kept_of : Row → KeptRow
kept_of cells = record {
  person = number_of (column cells 0);
  id = identifier_of (column cells 1);
  content = bytes_of (column cells 2);
  number = number_of (column cells 3);
  status = number_of (column cells 4);
  body = words_of (column cells 5);
}

abbrev pub horizon_of : Row → HorizonRow
horizon_of cells = record { board = number_of (column cells 0); ahead = number_of (column cells 1) }

-- ---- what is read without a refusal

-- a number below another
abbrev pub IsBelow : ℕ → Value → Type 0
IsBelow above value = (n : ℕ) × (value ≡ Int (pos n)) × (n < above)

-- a number that fits
abbrev pub IsNumber : Value → Type 0
IsNumber value = (n : ℕ) × (value ≡ Int (pos n)) × (n < 2 ^ 32)

abbrev pub IsText : Value → Type 0
IsText value = (text : List ℕ) × (value ≡ Words text) × IsUtf8 text

abbrev pub IsTextOrNone : Value → Type 0
IsTextOrNone value = (value ≡ Null) ⊎ IsText value

abbrev pub AreBytes : Value → Type 0
AreBytes value = (bytes : List ℕ) × (value ≡ Bytes bytes)

abbrev pub IsIdentifier : Value → Type 0
IsIdentifier value = (bytes : List ℕ) × (value ≡ Bytes bytes) × (length bytes ≡ 16)

-- the columns of the first table
pub record IsMetaRow (cells : Row) : Type 0 where
  pub both : length cells ≡ 2
  pub kind : IsText (column cells 0)
  pub version : IsNumber (column cells 1)

-- those of the others
pub record IsPersonRow (cells : Row) : Type 0 where
  pub all : length cells ≡ 3
  pub id : IsNumber (column cells 0)
  pub name : IsText (column cells 1)
  pub secret : IsText (column cells 2)

pub record IsBoardRow (cells : Row) : Type 0 where
  pub all : length cells ≡ 3
  pub id : IsNumber (column cells 0)
  pub title : IsText (column cells 1)
  pub low : IsNumber (column cells 2)

pub record IsRoleRow (cells : Row) : Type 0 where
  pub all : length cells ≡ 3
  pub board : IsNumber (column cells 0)
  pub person : IsNumber (column cells 1)
  pub kind : IsNumber (column cells 2)

pub record IsTaskRow (cells : Row) : Type 0 where
  pub all : length cells ≡ 5
  pub board : IsNumber (column cells 0)
  pub place : IsNumber (column cells 1)
  pub uuid : IsIdentifier (column cells 2)
  pub body : IsText (column cells 3)
  pub mask : IsTextOrNone (column cells 4)

pub record IsLinkRow (cells : Row) : Type 0 where
  pub all : length cells ≡ 3
  pub board : IsNumber (column cells 0)
  pub place : IsNumber (column cells 1)
  pub target : IsNumber (column cells 2)

pub record IsInstanceRow (cells : Row) : Type 0 where
  pub all : length cells ≡ 4
  pub board : IsNumber (column cells 0)
  pub template : IsNumber (column cells 1)
  pub imask : IsNumber (column cells 2)
  pub place : IsNumber (column cells 3)

pub record IsGoneRow (cells : Row) : Type 0 where
  pub all : length cells ≡ 4
  pub board : IsNumber (column cells 0)
  pub template : IsNumber (column cells 1)
  pub imask : IsNumber (column cells 2)
  pub mark : IsText (column cells 3)

pub record IsKeptRow (cells : Row) : Type 0 where
  pub all : length cells ≡ 6
  pub person : IsNumber (column cells 0)
  pub id : IsIdentifier (column cells 1)
  pub content : AreBytes (column cells 2)
  pub number : IsBelow 256 (column cells 3)
  pub status : IsBelow 65536 (column cells 4)
  pub body : IsText (column cells 5)

pub record IsHorizonRow (cells : Row) : Type 0 where
  pub both : length cells ≡ 2
  pub board : IsNumber (column cells 0)
  pub ahead : IsNumber (column cells 1)
