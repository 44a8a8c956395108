-- The words of a body, and what they say.
use Rattle.std.specs.Prelude.{ℕ, Bool, ◌&&◌, ◌==◌, if◌then◌else◌, nat_lt, List, [], ◌∷◌, ◌++◌, length, take, drop, slice_index, Option, Some, None, is_some, option_and_then, bytes_eq, codes}
use Rattle.std.specs.List.{slice_split, filter}
use Rattle.tb_task.specs.TaskId.{read_id}
use Rattle.tb_todotxt.specs.Day.{day_of}
use Rattle.tb_todotxt.specs.declared.words.Kind.{Kind}
use Rattle.tb_todotxt.specs.declared.words.Kind.TheVariants.{Project, Tag, Due, Id, Plain}
use Rattle.tb_todotxt.specs.declared.words.BodyWords.{BodyWords}

-- the parts of a text around its tabs that aren't empty
abbrev pub filled_parts : List ℕ → List (List ℕ)
filled_parts text = filter (λ part. nat_lt 0 (length part)) (slice_split (λ b. b == 9) text)

abbrev pub filled_parts_of_all : List (List ℕ) → List (List ℕ)
filled_parts_of_all [] = []
filled_parts_of_all (text ∷ texts) = filled_parts text ++ filled_parts_of_all texts

-- the runs of a text without space and tab: the parts around its spaces, and of each the parts around its tabs, but for the empty ones
abbrev pub words_of : List ℕ → List (List ℕ)
words_of text = filled_parts_of_all (slice_split (λ b. b == 32) text)

-- a sign, and at least one character after it
abbrev pub has_sign : ℕ → List ℕ → Bool
has_sign sign word = nat_lt 1 (length word) && (slice_index word 0 == sign)

-- what follows a key at the front of a word
abbrev pub after_key : List ℕ → List ℕ → Option (List ℕ)
after_key key word = if bytes_eq (take (length key) word) key
    then Some (drop (length key) word) else None

abbrev pub due_in : List ℕ → Option ℕ
due_in word = option_and_then day_of (after_key (codes "due:") word)

abbrev pub id_in : List ℕ → Option ℕ
id_in word = option_and_then read_id (after_key (codes "uuid:") word)

abbrev pub id_or_plain : Option ℕ → Kind
id_or_plain None = Plain
id_or_plain (Some id) = Id id

abbrev pub due_or : Option ℕ → Kind → Kind
due_or None kind = kind
due_or (Some day) kind = Due day

-- `+project`, `@tag`, `due:2026-01-31`, `uuid:` and an identifier, or another word
unfoldable pub kind_of : List ℕ → Kind
kind_of word =
    if has_sign 43 word then Project
    else if has_sign 64 word then Tag
    else due_or (due_in word) (id_or_plain (id_in word))

abbrev pub no_words : BodyWords
no_words = record { project = None; tags = []; due = None; id = None; description = [] }

-- words with one space between them
abbrev pub joined : List ℕ → List ℕ → List ℕ
joined [] word = word
joined (b ∷ bs) word = (b ∷ bs) ++ 32 ∷ word

abbrev pub with_plain : BodyWords → List ℕ → BodyWords
with_plain b word = record b { description = joined b.description word }

-- each tag is taken, and of a project, a due date and an identifier the first; the other words are the description's
-- Rule: of several due: words the first counts. Tried by todo_tasks.
abbrev pub with_kind : BodyWords → List ℕ → Kind → BodyWords
with_kind b word Project = if is_some b.project then with_plain b word
    else record b { project = Some (drop 1 word) }
with_kind b word Tag = record b { tags = b.tags ++ drop 1 word ∷ [] }
with_kind b word (Due day) = if is_some b.due then with_plain b word
    else record b { due = Some day }
with_kind b word (Id id) = if is_some b.id then with_plain b word else record b { id = Some id }
with_kind b word Plain = with_plain b word

abbrev pub with_word : BodyWords → List ℕ → BodyWords
with_word b word = with_kind b word (kind_of word)

abbrev pub with_words : BodyWords → List (List ℕ) → BodyWords
with_words b [] = b
with_words b (word ∷ words) = with_words (with_word b word) words

-- what the words of a body say
abbrev pub body_words : List ℕ → BodyWords
body_words body = with_words no_words (words_of body)
