use Rattle.std.proofs.Common.{◌≡◌, ◌<◌, ℕ, List, Bool, true, false}
use Rattle.sqlite_wal.specs.Recovery.{Passes}
use Rattle.tb_wal.specs.Framing.{BeginsCommit}
use Rattle.tb_wal.proofs.log.is_torn_inside.Given as goal

-- whether one of the frames so far doesn't pass, and that no commit begins after such a one
pub record AreLooked (page_size : ℕ) (log : List ℕ) (place : ℕ) (is_torn : Bool) : Type 0 where
  pub torn : is_torn ≡ true → (k : ℕ) × (k < place) × (Passes page_size log k → ⊥)
  pub whole : is_torn ≡ false → (k : ℕ) → k < place → Passes page_size log k
  pub none : (k j : ℕ) → k < j → j < place → (Passes page_size log k → ⊥) → BeginsCommit page_size log j → ⊥

abbrev pub invariant-loop-place : goal.invariant-loop-place
invariant-loop-place l = AreLooked l.page_size l.log l.place l.is_torn
