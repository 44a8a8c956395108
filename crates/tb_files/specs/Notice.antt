-- What is told of a file that was of a version before.
use Rattle.std.specs.Prelude.{ℕ, List, [], ◌∷◌, ◌++◌, codes}

abbrev pub rest_of_notice : List ℕ → List ℕ → List ℕ
rest_of_notice path what = path ++ (what ++ 10 ∷ [])

-- `taskboard: FILE is now of version 2`, or what else has become of it
abbrev pub notice : List ℕ → List ℕ → List ℕ
notice path what = codes "taskboard: " ++ rest_of_notice path what
