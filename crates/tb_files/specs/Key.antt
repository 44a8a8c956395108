-- What the giving of a key in a file comes to.
use Rattle.std.specs.Prelude.{◌≡◌, ◌⊎◌, ℕ, true, List, [], ◌∷◌, Option, Some, Result, IfOk, OnErr, OnOk}
use Rattle.sqlite_disk.specs.declared.Disk.{Ghosts as DiskGhosts}
use Rattle.sqlite_store.specs.declared.store.FileStore.{FileStore}
use Rattle.sqlite_wal.specs.Recovery.{Image}
use Rattle.tb_calls.specs.declared.keep.Keep.{Ghosts}
use Rattle.tb_keeper.specs.declared.sql_keep.SqlKeep.{SqlKeep}
use Rattle.tb_calls.specs.Call.{State, reply}
use Rattle.tb_calls.specs.Leaving.{Only, StandsAfter}
use Rattle.tb_calls.specs.declared.call.Call.{Call}
use Rattle.tb_command_line.specs.declared.order.KeyOrder.{KeyOrder}
use Rattle.tb_files.specs.Failed.{EndsIn, IsUnbegun}
use Rattle.tb_files.specs.File.{BeginsSession, IsFileSession, IsUnsaved}
use Rattle.tb_orders.specs.NewKey.{HoldsGiven, IsAsked, IsGiven, call_in, given_text, is_of_new_keys}
use Rattle.tb_orders.specs.Orders.{calls_made}
use Rattle.tb_orders.specs.declared.ending.Ending.{Ending}
use Rattle.tb_orders.specs.declared.new_key.NewKey.{NewKey}
use Rattle.tb_program.specs.declared.fault.Fault.{Fault}
use Rattle.tb_values.specs.Appends.{AppendsFront}

module _ {D : Type 0} {d : DiskGhosts D} (g : Ghosts (SqlKeep (FileStore D d))) where
  -- The one call was made in a session, or not, up to a fault: what it did stands, and what is printed is a front of what it gives.
  pub record IsKeyCut (given : ℕ → Type 0) (order : KeyOrder) (input : Option (List ℕ))
      (before after : Option (List ℕ)) (told : Fault) (old : SqlKeep (FileStore D d)) : Type 0 where
    pub new : SqlKeep (FileStore D d)
    pub asked : NewKey
    pub is_asked : IsAsked (λ key id. Unit {0}) given order input asked
    pub end : Result Ending Fault
    pub ends : EndsIn end told
    pub unsaved : OnOk end (IsUnsaved new.conn)
    pub done : g.is_honest new ≡ true → (s : State) → g.holds old s
        → IfOk end (IsGiven asked s (g.holds new) before after)
    pub held : g.is_honest new ≡ true → (s : State) → g.holds old s
        → HoldsGiven s asked (g.holds new)
    pub stands : g.is_honest new ≡ true → (s : State) → g.holds old s → Only s (g.after_stop old)
        → (call : Call) → call_in s asked ≡ Some call
        → StandsAfter s (call ∷ []) (calls_made end) (g.holds new) (g.after_stop new)
    pub front : g.is_honest new ≡ true → (s : State) → g.holds old s → (call : Call)
        → call_in s asked ≡ Some call
        → OnErr end (AppendsFront before after (given_text asked (reply s [] call)))

module _ {D : Type 0} {d : DiskGhosts D} (g : Ghosts (SqlKeep (FileStore D d)))
    (start : Image) where
  -- the key that the order asks for, by whatever bytes the machine drew, at a moment that was given, is given or refused by the one call in a session
  pub record IsKeyGiven (given : ℕ → Type 0) (order : KeyOrder) (input : Option (List ℕ))
      (before after : Option (List ℕ)) (ending : Ending) : Type 0 where
    pub old : SqlKeep (FileStore D d)
    pub new : SqlKeep (FileStore D d)
    pub session : IsFileSession g start old new
    pub asked : NewKey
    pub is_asked : IsAsked (λ key id. Unit {0}) given order input asked
    pub does : g.is_honest new ≡ true → (s : State) → g.holds old s
        → IsGiven asked s (g.holds new) before after ending

module _ {D W : Type 0} {d : DiskGhosts D} (g : Ghosts (SqlKeep (FileStore D d)))
    (start : Image) (contents : W → Option (List ℕ)) where
  -- a fault of reading or making a key, and nothing was printed (of the file nothing is said); or the file wasn't opened; or a session began
  abbrev pub IsKeyFailed : (ℕ → Type 0) → KeyOrder → Option (List ℕ) → W → W → Fault → Type 0
  IsKeyFailed given order input before after told =
      ((is_of_new_keys told ≡ true) × (after ≡ before))
      ⊎ (IsUnbegun g start contents before after told
      ⊎ BeginsSession g start (IsKeyCut g given order input (contents before) (contents after) told))
