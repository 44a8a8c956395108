-- How a shell reads words between quotes.
use Rattle.std.specs.Prelude.{◌≡◌, ◌==◌, List, [], ◌∷◌, ◌++◌, Option, Some, None, option_map, if◌then◌else◌}
use Rattle.tb_causes.specs.Told.{Text}
use Rattle.tb_causes.specs.Unanswered.{quoted_words}

-- where the reading stands
pub data Reading : Type 0 where
  -- between two words
  between : Reading
  -- in a word, outside quotes
  outside : Reading
  -- between its quotes
  within : Reading
  -- behind a backslash outside quotes
  behind : Reading

-- the words of a text, of which a word is begun. What has a meaning of its own outside quotes isn't read.
abbrev pub words_read : Reading → Text → Text → Option (List Text)
words_read between word [] = Some []
words_read outside word [] = Some (word ∷ [])
words_read within word [] = None
words_read behind word [] = None
words_read between word (byte ∷ text) =
    if byte == 32 then words_read between [] text
    else if byte == 39 then words_read within [] text
    else if byte == 92 then words_read behind [] text
    else None
words_read outside word (byte ∷ text) =
    if byte == 32 then option_map (λ words. word ∷ words) (words_read between [] text)
    else if byte == 39 then words_read within word text
    else if byte == 92 then words_read behind word text
    else None
words_read within word (byte ∷ text) =
    if byte == 39 then words_read outside word text else words_read within (word ++ byte ∷ []) text
words_read behind word (byte ∷ text) = words_read outside (word ++ byte ∷ []) text

-- words that are quoted are read as they were
-- Rule: a shell reads the words for resuming as they were. Tried by client.sh.
abbrev pub AreReadAgain : Type 0
AreReadAgain = (words : List Text) → words_read between [] (quoted_words words) ≡ Some words
