-- Which boards are at hand after the board of a number was looked at.
use Rattle.std.specs.Prelude.{◌≡◌, ℕ, List, Option, None, Some, Result, Ok, Err, OnErr, OnOk, nat_eq}
use Rattle.std.specs.Map.{lookup}
use Rattle.lru.specs.LruCache.{LruCache, put_entries}
use Rattle.tb_board.specs.declared.board.Board.{Board}
use Rattle.tb_board.specs.declared.change.Change.{Change}
use Rattle.tb_cache.specs.Following.{TouchesNone}
use Rattle.tb_rows.specs.Part.{touched_board}

-- A board that was found is the last used one. Where it is one too many, the one that was used longest ago goes.
abbrev pub used_at : LruCache ℕ Board → ℕ → Option Board → List (ℕ × Board)
used_at old n None = old.entries
used_at old n (Some b) = put_entries nat_eq old n b

-- it is put under its own number
abbrev pub put_by : LruCache ℕ Board → Option Board → List (ℕ × Board)
put_by old None = old.entries
put_by old (Some b) = used_at old b.number (Some b)

-- without a number no board is looked at
abbrev pub used_by : LruCache ℕ Board → Option ℕ → Option Board → List (ℕ × Board)
used_by old None found = old.entries
used_by old (Some n) found = used_at old n found

-- what a look found, unless it failed
abbrev pub found_in : {E : Type 0} → Result (Option Board) E → Option Board
found_in (Ok found) = found
found_in (Err fault) = None

-- the board of the number was looked at, whatever was found
abbrev pub IsUsed : LruCache ℕ Board → Option ℕ → List (ℕ × Board) → Type 0
IsUsed old number new = (found : Option Board) × (new ≡ used_by old number found)

-- A commit looks at the board that its changes touch. Where it fails, that is all. Where it is made, the boards that it
-- doesn't touch stay as they are after that look.
abbrev pub IsUsedToCommit : {X E : Type 0} → LruCache ℕ Board → List Change → Result X E
    → List (ℕ × Board) → Type 0
IsUsedToCommit old changes result new = (used : List (ℕ × Board))
    × IsUsed old (touched_board changes) used
    × OnErr result (new ≡ used)
    × OnOk result ((n : ℕ) → TouchesNone n changes
    → lookup (nat_eq n) new ≡ lookup (nat_eq n) used)
