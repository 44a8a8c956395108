-- When a call of the database may fail.
use Rattle.std.specs.Prelude.{◌≡◌, ◌≢◌, ◌≤◌, ◌⊎◌, IsTrue, None}
use Rattle.sqlite_disk.specs.Disk.{MoreFaults}
use Rattle.sqlite.specs.declared.error.ErrorCode.TheVariants.{OutOfMemory}
use Rattle.sqlite.specs.declared.error.Error.{Error}
use Rattle.sqlite.specs.declared.error.Error.TheVariants.{SqliteFailure}
use Rattle.sqlite.specs.State.{HasCleanDisk, State}
use Rattle.tb_sql_tables.specs.Content.{Content, IsContent}

-- the connection is open, and no limit is set on the steps of a query
pub record IsReady (s : State) : Type 0 where
  pub is_open : IsTrue s.is_open
  pub unlimited : s.step_limit ≡ None

-- The connection is open, and sees what was committed last: a new one, or one after each call of ours.
pub record IsAtRest (s : State) : Type 0 where
  pub is_open : IsTrue s.is_open
  pub clean : s.now ≡ s.committed

-- the disk has failed or refused a call since
abbrev pub HasFaulted : State → State → Type 0
HasFaulted old new = MoreFaults old.faults new.faults

-- No fault is forgotten, and only a fault shuts the connection.
pub record KeepsFaults (old new : State) : Type 0 where
  pub counts : old.faults ≤ new.faults
  pub limit : new.step_limit ≡ old.step_limit
  pub closes : HasCleanDisk new → IsTrue old.is_open → IsTrue new.is_open ⊎ HasFaulted old new

-- A look at a ready connection which sees a content fails for want of memory, or since the disk failed or refused a call.
abbrev pub IsExcused : State → State → Error → Type 0
IsExcused old new e = e ≢ SqliteFailure OutOfMemory → IsReady old → (content : Content)
    → IsContent content old.now → HasFaulted old new

-- While the disk returns what was written, it has failed or refused a call, where the connection was ready and there is such a content.
abbrev pub FailsByFault : State → State → (Content → Type 0) → Type 0
FailsByFault old new P = HasCleanDisk new → IsReady old → (content : Content) → P content
    → HasFaulted old new
