-- The words that ask for another own key.
use Rattle.std.specs.Prelude.{Bool, false, List, [], ◌∷◌, codes}
use Rattle.std.specs.Str.{bytes_eq}
use Rattle.tb_client.specs.Request.{Text}

-- `own-key`, without the keys
abbrev pub is_own_key_alone : List Text → Bool
is_own_key_alone [] = false
is_own_key_alone (word ∷ []) = bytes_eq word (codes "own-key")
is_own_key_alone (a ∷ b ∷ more) = false

-- `own-key OLD NEW`
abbrev pub own_key_words : Text → Text → List Text
own_key_words old new = codes "own-key" ∷ old ∷ new ∷ []
