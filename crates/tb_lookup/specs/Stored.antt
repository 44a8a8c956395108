-- When the tables are the rows of a state, and what a stop may leave.
use Rattle.std.specs.Prelude.{◌≡◌, ◌≢◌, ◌+◌, ◌⊎◌, ℕ, false, List, [], map, IfSome, IsSome, option_map}
use Rattle.std.specs.List.{AllByRecursion, flat_map}
use Rattle.std.specs.Option.{unwrap_or}
use Rattle.std.specs.FinMap.{entries, get}
use Rattle.sqlite_trees.specs.Tree.{Trees}
use Rattle.sqlite.specs.State.{HasCleanDisk, State as Database}
use Rattle.tb_board.specs.declared.board.Board.{Board}
use Rattle.tb_board.specs.declared.world.World.{World}
use Rattle.tb_board.specs.World.{find_board, number_of}
use Rattle.tb_core.specs.GoodWorld.{IsGoodWorld}
use Rattle.tb_calls.specs.declared.call.Call.{Call}
use Rattle.tb_calls.specs.declared.call.KeptReply.{KeptReply}
use Rattle.tb_calls.specs.Call.{CallName, State}
use Rattle.tb_calls.specs.Keep.{HasPlace}
use Rattle.tb_deeds.specs.declared.deed.Deed.{Deed}
use Rattle.tb_deeds.specs.Kinds.{number_of as number_of_kind}
use Rattle.tb_history.specs.declared.entry.Entry.{Entry}
use Rattle.tb_history.specs.History.{entry_of, numbered}
use Rattle.tb_rows.specs.Forms.{HasForm}
use Rattle.tb_rows.specs.Laws.{AreApart}
use Rattle.tb_rows.specs.Rows.{world_rows, IsSameContent}
use Rattle.tb_task.specs.Storable.{IsMoment}
use Rattle.tb_sql_tables.specs.declared.rows.HistoryRow.{HistoryRow}
use Rattle.tb_sql_tables.specs.declared.rows.HorizonRow.{HorizonRow}
use Rattle.tb_sql_tables.specs.declared.rows.KeptRow.{KeptRow}
use Rattle.tb_sql_tables.specs.Content.{without_history, AreOldRows, AreRows, AreSecondRows, Content, Stands, StandsAsEither}

-- ---- the rows of a state

-- a kept reply, under the number of its person
abbrev pub kept_row : World → CallName × KeptReply → KeptRow
kept_row w e = record {
  person = unwrap_or (number_of w e.0.0) 0;
  id = e.0.1;
  content = e.1.content;
  number = e.1.reply.number;
  status = e.1.reply.status;
  body = e.1.reply.body;
}

-- what is kept by a row
abbrev pub reply_in : KeptRow → KeptReply
reply_in row = record {
  content = row.content;
  reply = record { number = row.number; status = row.status; body = row.body };
}

-- an entry of a board's history with its number, under the number of its person; a row counts places from 1
abbrev pub entry_row : World → ℕ → ℕ × Entry → HistoryRow
entry_row w board e = record {
  board = board;
  number = e.0;
  moment = e.1.moment;
  person = unwrap_or (number_of w e.1.member) 0;
  call = e.1.id;
  what = number_of_kind e.1.what;
  task = option_map (λ place. place + 1) e.1.place;
}

-- the row of what a call did, where its board had so many entries
abbrev pub noted_row : World → Call → Deed → ℕ → HistoryRow
noted_row w c deed count =
    entry_row w deed.board (count + 1, entry_of c.member c.id c.moment deed)

abbrev pub board_history : World → ℕ × List Entry → List HistoryRow
board_history w e = map (entry_row w e.0) (numbered 1 e.1)

abbrev pub state_rows : State → Content
state_rows s = record (world_rows s.world) {
  kept = map (kept_row s.world) (entries s.kept);
  history = flat_map (board_history s.world) (entries s.history);
}

-- the entry is kept for a person of the world
abbrev pub IsKnown : World → CallName × KeptReply → Type 0
IsKnown w e = IsSome (number_of w e.0.0)

abbrev pub AreOfPeople : State → Type 0
AreOfPeople s = AllByRecursion (IsKnown s.world) (entries s.kept)

-- the entry has a moment, and is of a person, a call and a task that are there
pub record IsEntryOf (s : State) (board : ℕ) (e : Entry) : Type 0 where
  pub moment : IsMoment e.moment
  pub person : IsSome (number_of s.world e.member)
  pub call : IsSome (get s.kept (e.member, e.id))
  pub place : IfSome e.place (HasPlace s.world board)

-- the history is of a board that is there, and has an entry
pub record IsHistoryOf (s : State) (e : ℕ × List Entry) : Type 0 where
  pub board : IsSome (find_board s.world e.0)
  pub some : e.1 ≢ []
  pub each : AllByRecursion (IsEntryOf s e.0) e.1

abbrev pub AreHistories : State → Type 0
AreHistories s = AllByRecursion (IsHistoryOf s) (entries s.history)

-- the content is the rows of the state, in any order
pub record AreRowsOf (s : State) (content : Content) : Type 0 where
  -- no two good worlds have the same rows: a law, which is kept here for the laws of a keeper
  pub apart : AreApart
  pub good : IsGoodWorld s.world
  pub form : HasForm s.world
  pub people : AreOfPeople s
  pub histories : AreHistories s
  pub same : IsSameContent content (state_rows s)

-- the trees are the rows of the state
pub record AreTreesOf (s : State) (db : Trees) : Type 0 where
  pub content : Content
  pub rows : AreRowsOf s content
  pub stored : AreRows content db

-- ---- a database that holds them

-- the database holds the rows of the state, and a stop leaves them
pub record IsStored (s : State) (d : Database) : Type 0 where
  pub content : Content
  pub rows : AreRowsOf s content
  pub stands : Stands content d
  pub idle : d.in_transaction ≡ false

-- it holds the rows of one of the two states, and a stop leaves those of one
pub record IsStoredAsEither (s t : State) (d : Database) : Type 0 where
  pub before : Content
  pub after : Content
  pub rows_before : AreRowsOf s before
  pub rows_after : AreRowsOf t after
  pub stands : StandsAsEither before after d

-- while its disk returns what was written, a stop may leave the rows of the state
pub record MayLeave (d : Database) (t : State) : Type 0 where
  pub clean : HasCleanDisk d
  pub trees : Trees
  pub left : d.may_leave trees
  pub stored : AreTreesOf t trees

-- ---- rows in the tables of the first version, and of the second

-- each board looks one ahead, as all did in the first version
abbrev pub LookOneAhead : State → Type 0
LookOneAhead s = AllByRecursion (λ (b : Board). b.ahead ≡ 1) s.world.boards

-- the content but for how far ahead the boards look, and without a history, is the rows of such a state
pub record AreOldRowsOf (s : State) (content : Content) : Type 0 where
  pub one_ahead : LookOneAhead s
  pub horizon : List HorizonRow
  pub rows : AreRowsOf s (without_history (record content { horizon = horizon }))

-- the content without a history is the rows of the state
abbrev pub AreSecondRowsOf : State → Content → Type 0
AreSecondRowsOf s content = AreRowsOf s (without_history content)

pub record AreFirstTreesOf (s : State) (db : Trees) : Type 0 where
  pub content : Content
  pub rows : AreOldRowsOf s content
  pub stored : AreOldRows content db

pub record AreSecondTreesOf (s : State) (db : Trees) : Type 0 where
  pub content : Content
  pub rows : AreSecondRowsOf s content
  pub stored : AreSecondRows content db

-- the trees are the rows of the state in the tables of a version before
abbrev pub AreOldTreesOf : State → Trees → Type 0
AreOldTreesOf s db = AreFirstTreesOf s db ⊎ AreSecondTreesOf s db
