-- What the types of a row's columns keep of it: its numbers fit, and its texts are UTF-8. Identifiers stand apart.
use Rattle.std.specs.Prelude.{◌<◌, ◌^◌, IfSome, IsUtf8}
use Rattle.tb_sql_tables.specs.declared.rows.PersonRow.{PersonRow}
use Rattle.tb_sql_tables.specs.declared.rows.BoardRow.{BoardRow}
use Rattle.tb_sql_tables.specs.declared.rows.RoleRow.{RoleRow}
use Rattle.tb_sql_tables.specs.declared.rows.TaskRow.{TaskRow}
use Rattle.tb_sql_tables.specs.declared.rows.LinkRow.{LinkRow}
use Rattle.tb_sql_tables.specs.declared.rows.InstanceRow.{InstanceRow}
use Rattle.tb_sql_tables.specs.declared.rows.GoneRow.{GoneRow}
use Rattle.tb_sql_tables.specs.declared.rows.KeptRow.{KeptRow}
use Rattle.tb_sql_tables.specs.declared.rows.HorizonRow.{HorizonRow}
use Rattle.tb_sql_tables.specs.declared.rows.HistoryRow.{HistoryRow}

pub record FitsPerson (row : PersonRow) : Type 0 where
  pub id : row.id < 2 ^ 32
  pub name : IsUtf8 row.name
  pub secret : IsUtf8 row.secret

pub record FitsBoard (row : BoardRow) : Type 0 where
  pub id : row.id < 2 ^ 32
  pub title : IsUtf8 row.title
  pub low : row.low < 2 ^ 32

pub record FitsRole (row : RoleRow) : Type 0 where
  pub board : row.board < 2 ^ 32
  pub person : row.person < 2 ^ 32
  pub kind : row.kind < 2 ^ 32

pub record FitsTask (row : TaskRow) : Type 0 where
  pub board : row.board < 2 ^ 32
  pub place : row.place < 2 ^ 32
  pub body : IsUtf8 row.body
  pub mask : IfSome row.mask IsUtf8

pub record FitsLink (row : LinkRow) : Type 0 where
  pub board : row.board < 2 ^ 32
  pub place : row.place < 2 ^ 32
  pub target : row.target < 2 ^ 32

pub record FitsInstance (row : InstanceRow) : Type 0 where
  pub board : row.board < 2 ^ 32
  pub template : row.template < 2 ^ 32
  pub imask : row.imask < 2 ^ 32
  pub place : row.place < 2 ^ 32

pub record FitsGone (row : GoneRow) : Type 0 where
  pub board : row.board < 2 ^ 32
  pub template : row.template < 2 ^ 32
  pub imask : row.imask < 2 ^ 32
  pub mark : IsUtf8 row.mark

pub record FitsKept (row : KeptRow) : Type 0 where
  pub person : row.person < 2 ^ 32
  pub number : row.number < 2 ^ 8
  pub status : row.status < 2 ^ 16
  pub body : IsUtf8 row.body

pub record FitsHorizon (row : HorizonRow) : Type 0 where
  pub board : row.board < 2 ^ 32
  pub ahead : row.ahead < 2 ^ 32

pub record FitsEntry (row : HistoryRow) : Type 0 where
  pub board : row.board < 2 ^ 32
  pub number : row.number < 2 ^ 32
  pub person : row.person < 2 ^ 32
  pub what : row.what < 2 ^ 32
  pub task : IfSome row.task (λ place. place < 2 ^ 32)
