-- The names and keys that have been right.
use Rattle.std.specs.Prelude.{ℕ, ◌+◌, ◌-◌, ◌^◌, min, Bool, false, List, Option, Some, None, find, if◌then◌else◌, position, remove}
use Rattle.std.specs.Str.{bytes_eq}
use Rattle.tb_rooms.specs.Ledger.{put_at}
use Rattle.tb_rooms.specs.declared.claims.Claim.{Claim}
use Rattle.tb_rooms.specs.declared.claims.Claims.{Claims}

abbrev pub is_under : List ℕ → Claim → Bool
is_under name claim = bytes_eq claim.name name

abbrev pub has_key : List ℕ → Option Claim → Bool
has_key key None = false
has_key key (Some claim) = bytes_eq claim.key key

-- this key was the last that was right with this name
abbrev pub is_claimed : List ℕ → List ℕ → List Claim → Bool
is_claimed name key claims = has_key key (find (is_under name) claims)

abbrev pub number_in : List ℕ → Option Claim → ℕ
number_in key None = 0
number_in key (Some claim) = if bytes_eq claim.key key then claim.number else 0

-- the number under which this key was learned, where it was the last that was right with this name
abbrev pub number_under : List ℕ → List ℕ → List Claim → ℕ
number_under name key claims = number_in key (find (is_under name) claims)

abbrev pub next_number : Claims → ℕ
next_number claims = min (claims.last + 1) (2 ^ 64 - 1)

-- one key for each name
abbrev pub learned : List ℕ → List ℕ → ℕ → List Claim → List Claim
learned name key number claims =
    put_at (position (is_under name) claims) claims
    (record { name = name; key = key; number = number })

abbrev pub taught : List ℕ → List ℕ → Claims → Claims
taught name key claims = record {
  claims = learned name key (next_number claims) claims.claims;
  last = next_number claims;
}

abbrev pub without : Option ℕ → List Claim → List Claim
without None claims = claims
without (Some place) claims = remove claims place

-- a key that is wrong now goes, and no other
abbrev pub forgotten : List ℕ → List ℕ → List Claim → List Claim
forgotten name key claims =
    if is_claimed name key claims then without (position (is_under name) claims) claims else claims
