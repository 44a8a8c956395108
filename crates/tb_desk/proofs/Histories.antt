-- The entries that calls put on a board.
use Rattle.std.proofs.Common.{◌≡◌, ℕ, List, [], ◌∷◌, ◌++◌, sym, ap, ◌∙◌, append_assoc}
use Rattle.std.proofs.lemmas.List.{append-nil}
use Rattle.tb_deeds.specs.Deeds.{deed_of}
use Rattle.tb_history.specs.History.{entries_on}
use Rattle.tb_history.proofs.Numbering.{noted_last}
use Rattle.tb_calls.specs.declared.call.Call.{Call}
use Rattle.tb_calls.specs.Call.{State, after_call, once, plain}
use Rattle.tb_desk.specs.Histories.{HistoryIsOfCalls, entries_by, entries_of}

by_each : (s : State) (cs : List Call) (board : ℕ) → entries_on (plain s cs).history board ≡ entries_on s.history board ++ entries_by s cs board
by_each s [] board = sym (append-nil (entries_on s.history board))
by_each s (c ∷ cs) board =
    by_each (after_call s c) cs board
    ∙ ap (λ es. es ++ entries_by (after_call s c) cs board) (noted_last s.history c.member c.id c.moment (deed_of s.world c.member c.command c.moment) board)
    ∙ append_assoc (entries_on s.history board) (entries_of s c board) (entries_by (after_call s c) cs board)

pub of_calls : HistoryIsOfCalls
of_calls s calls board = by_each s (once s calls) board
