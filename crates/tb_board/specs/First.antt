-- The first item of a list that passes a test.
use Rattle.std.specs.Prelude.{◌≡◌, ◌<◌, ℕ, Bool, true, false, List, [], ◌∷◌, Some, None, if◌then◌else◌, length, find, slice_index_or, slice_set, remove}
use Rattle.std.specs.List.{list_any}
use Rattle.std.specs.Set.{remove_key}

-- it is changed by f, and nothing else
abbrev pub change_first : {A : Type 0} → (A → Bool) → (A → A) → List A → List A
change_first test f [] = []
change_first test f (x ∷ xs) = if test x then f x ∷ xs else x ∷ change_first test f xs

-- it stands at place k
pub record IsFirst {A : Type 0} (test : A → Bool) (xs : List A) (k : ℕ) : Type 0 where
  pub within : k < length xs
  pub found : (d : A) → find test xs ≡ Some (slice_index_or xs k d)
  pub passes : (d : A) → test (slice_index_or xs k d) ≡ true
  pub stands : list_any test xs ≡ true
  pub changed : (f : A → A) (d : A)
      → change_first test f xs ≡ slice_set xs k (f (slice_index_or xs k d))
  pub removed : remove_key test xs ≡ remove xs k

-- there is none
pub record IsNone {A : Type 0} (test : A → Bool) (xs : List A) : Type 0 where
  pub none : list_any test xs ≡ false
  pub found : find test xs ≡ None
  pub changed : (f : A → A) → change_first test f xs ≡ xs
  pub removed : remove_key test xs ≡ xs
