-- What a call inside a transaction sees and keeps.
use Rattle.std.specs.Prelude.{IsTrue, OnErr, Result}
use Rattle.sqlite_trees.specs.declared.store.Store.{Ghosts}
use Rattle.sqlite.specs.declared.transaction.Transaction.{Transaction}
use Rattle.sqlite.specs.Held.{state}
use Rattle.sqlite.specs.State.{State, HasCleanDisk, KeepsCommit}

-- the state of the connection of a transaction
abbrev pub seen : {S : Type 0} → Ghosts S → Transaction S → State
seen g tx = state g tx.conn.now

-- while the disk returns what was written, the last commit stands whatever the call gives
abbrev pub KeepsInside : State → State → Type 0
KeepsInside old new = HasCleanDisk new → IsTrue old.in_transaction → KeepsCommit old new

-- while the disk returns what was written, the last commit stands where the call fails
abbrev pub KeepsOnErr : {A E : Type 0} → State → State → Result A E → Type 0
KeepsOnErr old new result =
    HasCleanDisk new → IsTrue old.in_transaction → OnErr result (KeepsCommit old new)
