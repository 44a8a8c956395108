-- What each of many used, by name.
use Rattle.std.specs.Prelude.{ℕ, Bool, List, [], ◌∷◌, ◌++◌, Option, Some, None, find, if◌then◌else◌, length, nat_lt, position, remove, slice_set}
use Rattle.std.specs.Str.{bytes_eq}
use Rattle.tb_rooms.specs.Bucket.{charged, untouched}
use Rattle.tb_rooms.specs.declared.bucket.Bucket.{Bucket}
use Rattle.tb_rooms.specs.declared.bucket.Rate.{Rate}
use Rattle.tb_rooms.specs.declared.ledger.Account.{Account}
use Rattle.tb_rooms.specs.declared.ledger.TheConstants.{MOST}

abbrev pub is_of : List ℕ → Account → Bool
is_of name account = bytes_eq account.name name

abbrev pub bucket_of : Option Account → Bucket
bucket_of None = untouched
bucket_of (Some account) = account.bucket

-- one that isn't known used nothing
abbrev pub bucket_in : List ℕ → List Account → Bucket
bucket_in name accounts = bucket_of (find (is_of name) accounts)

-- where there are too many, the one that came first is forgotten
abbrev pub trimmed : {A : Type 0} → List A → List A
trimmed items = if nat_lt MOST (length items) then remove items 0 else items

-- in its place where it has one, and last where it has none
abbrev pub put_at : {A : Type 0} → Option ℕ → List A → A → List A
put_at (Some place) items item = slice_set items place item
put_at None items item = trimmed (items ++ item ∷ [])

abbrev pub charged_in : Rate → List ℕ → ℕ → ℕ → List Account → List Account
charged_in rate name cost now accounts =
    put_at (position (is_of name) accounts) accounts
    (record { name = name; bucket = charged rate (bucket_in name accounts) cost now })
