-- What holds of a state whose store is of a version before.
use Rattle.sqlite.specs.State.{HasCleanDisk, State as Database}
use Rattle.tb_calls.specs.Call.{State}
use Rattle.tb_lookup.specs.Migrating.{IsStoredOld, IsStoredSecond}

-- this holds of each state whose rows are stored in the tables of the first version
abbrev pub OfFirstState : Database → Database → (State → Type 0) → Type 0
OfFirstState old new P = HasCleanDisk new → (s : State) → IsStoredOld s old → P s

-- the same of the second version
abbrev pub OfSecondState : Database → Database → (State → Type 0) → Type 0
OfSecondState old new P = HasCleanDisk new → (s : State) → IsStoredSecond s old → P s
