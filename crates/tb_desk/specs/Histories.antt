-- The histories of boards after calls.
use Rattle.std.specs.Prelude.{◌≡◌, ℕ, List, [], ◌∷◌, ◌++◌}
use Rattle.tb_deeds.specs.Deeds.{deed_of}
use Rattle.tb_history.specs.declared.entry.Entry.{Entry}
use Rattle.tb_history.specs.History.{entries_on}
use Rattle.tb_history.specs.Laws.{new_entries}
use Rattle.tb_calls.specs.declared.call.Call.{Call}
use Rattle.tb_calls.specs.Call.{State, after_call, once, plain}

-- the entry of a call that acts in a state, if it does something on this board: it has the call's person, identifier and moment
abbrev pub entries_of : State → Call → ℕ → List Entry
entries_of s c board =
    new_entries board c.member c.id c.moment (deed_of s.world c.member c.command c.moment)

-- the entries of calls that act one after another
abbrev pub entries_by : State → List Call → ℕ → List Entry
entries_by s [] board = []
entries_by s (c ∷ cs) board = entries_of s c board ++ entries_by (after_call s c) cs board

-- Calls put one entry on a board for each of them that acts and does something there, in their order, and nothing else.
-- Rule: a call that comes again puts no entry. Tried by history.
abbrev pub HistoryIsOfCalls : Type 0
HistoryIsOfCalls = (s : State) (calls : List Call) (board : ℕ)
    → entries_on (plain s (once s calls)).history board
    ≡ entries_on s.history board ++ entries_by s (once s calls) board
