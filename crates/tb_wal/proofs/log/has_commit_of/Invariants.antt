use Rattle.std.proofs.Common.{◌<◌, ℕ}
use Rattle.sqlite_wal.specs.Recovery.{Passes}
use Rattle.tb_wal.specs.Framing.{EndsCommit}
use Rattle.tb_wal.proofs.log.has_commit_of.Given as goal

-- the frames so far pass, and none of them commits
abbrev pub invariant-loop-place : goal.invariant-loop-place
invariant-loop-place l = (i : ℕ) → i < l.place → Passes l.page_size l.log i × (EndsCommit l.page_size l.log i → ⊥)
