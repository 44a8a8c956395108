-- The frames of a log, each by itself.
use Rattle.std.specs.Prelude.{◌≡◌, ◌≢◌, ℕ, List}
use Rattle.sqlite_wal.specs.Format.{commit_size, count_page, page_number}
use Rattle.sqlite_wal.specs.Recovery.{Passes, frame}

-- A frame that passes and counts what the frames of a commit lack: each commit begins with one, but the first of a log.
pub record BeginsCommit (page_size : ℕ) (log : List ℕ) (i : ℕ) : Type 0 where
  pub passes : Passes page_size log i
  pub counts : page_number (frame page_size log i) ≡ count_page

-- A frame that passes and commits.
pub record EndsCommit (page_size : ℕ) (log : List ℕ) (i : ℕ) : Type 0 where
  pub passes : Passes page_size log i
  pub commits : commit_size (frame page_size log i) ≢ 0
