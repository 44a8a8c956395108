-- What a log says before it is opened.
use Rattle.std.specs.Prelude.{◌≡◌, ◌≢◌, ◌⊎◌, ◌+◌, ◌<◌, ◌≤◌, ℕ, Bool, true, false, List, Option, Some, None, length, slice_index}
use Rattle.sqlite_wal.specs.Format.{be32, IsSigned}
use Rattle.sqlite_wal.specs.Recovery.{Passes, header}
use Rattle.tb_wal.specs.declared.beside.LogFault.{LogFault}
use Rattle.tb_wal.specs.declared.beside.LogFault.TheVariants.{Damaged, Foreign, Left}
use Rattle.tb_wal.specs.Framing.{BeginsCommit, EndsCommit}

-- all frames up to one that commits pass
pub record HasCommitOf (page_size : ℕ) (log : List ℕ) : Type 0 where
  pub last : ℕ
  pub whole : (i : ℕ) → i < last → Passes page_size log i
  pub ends : EndsCommit page_size log last

abbrev pub HasCommit : List ℕ → Type 0
HasCommit log = IsSigned (header log) × HasCommitOf (be32 log 8) log

-- A commit begins only once the one before it was synced. So a frame before the beginning of a commit was whole, and one that doesn't
-- pass was damaged since.
pub record IsTornInside (page_size : ℕ) (log : List ℕ) : Type 0 where
  pub wrong : ℕ
  pub next : ℕ
  pub before : wrong < next
  pub torn : ¬ Passes page_size log wrong
  pub begins : BeginsCommit page_size log next

-- The header was damaged: it isn't signed, though its first byte, which is 0 in a log that is emptied, is none, and frames follow.
pub record HasLostHeader (log : List ℕ) : Type 0 where
  pub first : slice_index log 0 ≢ 0
  pub unsigned : ¬ IsSigned (header log)
  pub long : 32 + (24 + 4096) ≤ length log

abbrev pub IsDamaged : List ℕ → Type 0
IsDamaged log = (IsSigned (header log) × IsTornInside (be32 log 8) log) ⊎ HasLostHeader log

-- Why a file isn't opened with its log. A file that is gone or empty is asked for first, then damage, then which of the two is older.
abbrev pub HasFault : Bool → Bool → List ℕ → Option LogFault → Type 0
HasFault there younger log (Some Left) = (there ≡ false) × HasCommit log
HasFault there younger log (Some Damaged) =
    (there ≡ false → HasCommit log → ⊥) × IsDamaged log
HasFault there younger log (Some Foreign) =
    (there ≡ true) × (younger ≡ true) × (IsDamaged log → ⊥) × HasCommit log
HasFault there younger log None =
    (IsDamaged log → ⊥) × (HasCommit log → (there ≡ true) × (younger ≡ false))

-- of what is shown of a file and its log
abbrev pub IsFound : (Bool → Bool → List ℕ → Type 0) → Option LogFault → Type 0
IsFound shows found = (there : Bool) × (younger : Bool) × (log : List ℕ) × shows there younger log
    × HasFault there younger log found
