-- When a keeper's look may fail.
use Rattle.sqlite.specs.State.{HasCleanDisk, State as Database}
use Rattle.tb_calls.specs.Call.{State}
use Rattle.tb_sql_tables.specs.Failing.{HasFaulted, IsReady}

-- While the disk returns what was written, it has failed or refused a call, where the connection was ready and this held of a state.
abbrev pub FailsOf : Database → Database → (State → Type 0) → Type 0
FailsOf old new held = HasCleanDisk new → IsReady old → (s : State) → held s → HasFaulted old new
