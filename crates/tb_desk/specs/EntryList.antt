-- Entries of all boards in one list, in the order in which they came.
use Rattle.std.specs.Prelude.{ℕ, ◌==◌, Bool, List, [], ◌∷◌, ◌++◌, filter, map}
use Rattle.std.specs.Borrow.{Bor}
use Rattle.std.specs.FinMap.{find, insert}
use Rattle.std.specs.Option.{option_map}
use Rattle.tb_deeds.specs.declared.deed.Deed.{Deed}
use Rattle.tb_history.specs.declared.entry.Entry.{Entry}
use Rattle.tb_history.specs.History.{Histories, entries_on, entry_of}
use Rattle.tb_history.specs.Pages.{KeptContent}
use Rattle.tb_calls.specs.declared.call.Call.{Call}
use Rattle.tb_calls.specs.declared.call.KeptReply.{KeptReply}
use Rattle.tb_calls.specs.Call.{CallName, name_cmp}
use Rattle.tb_desk.specs.declared.entry_list.BoardEntry.{BoardEntry}

-- the entry of a call's deed
abbrev pub entry_by : Call → Deed → BoardEntry
entry_by c deed = record { board = deed.board; entry = entry_of c.member c.id c.moment deed }

-- histories, and one entry more at the end of its board's
abbrev pub with_entry : Histories → BoardEntry → Histories
with_entry histories e = insert histories e.board (entries_on histories e.board ++ e.entry ∷ [])

-- histories, and entries that came one after another
abbrev pub with_entries : Histories → List BoardEntry → Histories
with_entries histories [] = histories
with_entries histories (e ∷ es) = with_entries (with_entry histories e) es

abbrev pub is_of_board : ℕ → BoardEntry → Bool
is_of_board board e = board == e.board

-- those of one board
abbrev pub entries_in : ℕ → List BoardEntry → List Entry
entries_in board es = map (λ (e : BoardEntry). e.entry) (filter (is_of_board board) es)

-- an entry with its number
abbrev pub number_and_entry : ℕ × Bor Entry → ℕ × Entry
number_and_entry e = (e.0, e.1.now)

-- the content that is kept under the name of a call
abbrev pub content_among : List (CallName × KeptReply) → KeptContent
content_among replies member id =
    option_map (λ (kept : KeptReply). kept.content) (find name_cmp (member, id) replies)
