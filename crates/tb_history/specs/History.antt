-- The history of each board: its entries, numbered from 1. Each deed puts one at the end.
use Rattle.std.specs.Prelude.{ℕ, ◌+◌, List, [], ◌∷◌, ◌++◌, Option, Some, None, unwrap_or}
use Rattle.std.specs.FinMap.{FinMap, get, insert}
use Rattle.std.specs.Ordering.{nat_cmp}
use Rattle.tb_deeds.specs.declared.deed.Deed.{Deed}
use Rattle.tb_history.specs.declared.entry.Entry.{Entry}

-- the entries of each board, by its number; a board without entries has none here
abbrev pub Histories : Type 0
Histories = FinMap nat_cmp (List Entry)

-- the entries of a board
abbrev pub entries_on : Histories → ℕ → List Entry
entries_on histories board = unwrap_or (get histories board) []

-- the entry of what a call of a person did, under that person's identifier at a moment
abbrev pub entry_of : List ℕ → ℕ → ℕ → Deed → Entry
entry_of member id moment deed =
    record { member = member; id = id; moment = moment; what = deed.what; place = deed.place }

-- the histories after a call, which did something or nothing
-- Rule: each deed is one entry, at the end of its board's history. Tried by no test.
abbrev pub noted : Histories → List ℕ → ℕ → ℕ → Option Deed → Histories
noted histories member id moment None = histories
noted histories member id moment (Some deed) =
    insert histories deed.board
    (entries_on histories deed.board ++ entry_of member id moment deed ∷ [])

-- entries with their numbers, of which this is the first
abbrev pub numbered : ℕ → List Entry → List (ℕ × Entry)
numbered n [] = []
numbered n (e ∷ es) = (n, e) ∷ numbered (n + 1) es
