-- What is seen of a board's history in a state.
use Rattle.std.specs.Prelude.{ℕ, List, Option}
use Rattle.std.specs.FinMap.{get}
use Rattle.std.specs.Option.{option_map}
use Rattle.tb_board.specs.declared.board.Board.{Board}
use Rattle.tb_board.specs.Tasks.{ids}
use Rattle.tb_history.specs.declared.page.HistoryPage.{HistoryPage}
use Rattle.tb_history.specs.declared.page.Which.{Which}
use Rattle.tb_history.specs.History.{entries_on}
use Rattle.tb_history.specs.Pages.{KeptContent, page_of}
use Rattle.tb_calls.specs.declared.call.KeptReply.{KeptReply}
use Rattle.tb_calls.specs.Call.{State}

-- the content that is kept of a person's call
abbrev pub content_in : State → KeptContent
content_in s member id = option_map (λ (kept : KeptReply). kept.content) (get s.kept (member, id))

-- a page of the history of a board that has these tasks
abbrev pub history_seen : State → Board → Which → HistoryPage
history_seen s b which = page_of (content_in s) (ids b.tasks) (entries_on s.history b.number) which
