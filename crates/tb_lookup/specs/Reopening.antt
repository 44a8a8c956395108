-- What is read of a state whose rows stand, while the disk returns what was written.
use Rattle.sqlite.specs.State.{HasCleanDisk, State as Database}
use Rattle.tb_board.specs.declared.board.Board.{Board}
use Rattle.tb_board.specs.declared.world.World.{World}
use Rattle.tb_board.specs.Good.{IsGood}
use Rattle.tb_calls.specs.Call.{State}
use Rattle.tb_rows.specs.Laws.{IsBoardRead}
use Rattle.tb_sql_tables.specs.Content.{Content, Stands}
use Rattle.tb_sql_tables.specs.Failing.{HasFaulted, IsReady}
use Rattle.tb_lookup.specs.Stored.{IsStored}

-- this holds of each content that stood
abbrev pub OfContent : Database → Database → (Content → Type 0) → Type 0
OfContent old new P = HasCleanDisk new → (content : Content) → Stands content old → P content

-- this holds of each board of a world that is read there
abbrev pub OfBoard : Database → Database → (World → Board → Type 0) → Type 0
OfBoard old new P = HasCleanDisk new → (w : World) (content : Content) (b : Board)
    → IsBoardRead w content b → Stands content old → P w b

-- this holds of each state whose rows are stored
abbrev pub OfState : Database → Database → (State → Type 0) → Type 0
OfState old new P = HasCleanDisk new → (s : State) → IsStored s old → P s

-- While the disk returns what was written, it has failed or refused a call, where the connection was ready and the rows of a state were stored.
abbrev pub FailsOfState : Database → Database → Type 0
FailsOfState old new = HasCleanDisk new → IsReady old → (s : State) → IsStored s old
    → HasFaulted old new

-- the same of a good board that is read there
abbrev pub FailsOfBoard : Database → Database → (Board → Type 0) → Type 0
FailsOfBoard old new P = HasCleanDisk new → IsReady old → (w : World) (content : Content)
    (b : Board) → IsBoardRead w content b → Stands content old → IsGood b → P b
    → HasFaulted old new
