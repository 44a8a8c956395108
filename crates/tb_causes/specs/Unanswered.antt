-- What is told where no answer came, or where it couldn't be printed.
use Rattle.std.specs.Prelude.{ℕ, ◌==◌, Bool, true, false, ◌&&◌, List, [], ◌∷◌, ◌++◌, codes, is_some, length, Option, Some, None, if◌then◌else◌}
use Rattle.std.specs.List.{flat_map}
use Rattle.std.specs.Str.{bytes_eq}
use Rattle.tb_causes.specs.Told.{IsEither, Text}
use Rattle.tb_causes.specs.declared.unanswered.TheConstants.{GO_ON, GO_ON_KEY, UNCHANGED, UNPRINTED}
use Rattle.tb_calls.specs.Word.{word_named}
use Rattle.tb_calls.specs.declared.word.Word.{Word}
use Rattle.tb_calls.specs.declared.word.Word.TheVariants as word
use Rattle.tb_client.specs.OwnKey.{is_own_key_alone}
use Rattle.tb_client.specs.Request.{request_of}
use Rattle.tb_client.specs.Places.{places_of}
use Rattle.tb_client.specs.declared.request.Request.{Request}
use Rattle.tb_command_line.specs.declared.order.SendOrder.{SendOrder}
use Rattle.tb_task.specs.TaskId.{id_text}

-- ---- what may have come of it

abbrev pub has_body : Option Request → Bool
has_body None = false
has_body (Some request) = is_some request.body

-- a call may have reached a server that didn't answer: a view changes nothing, and places are asked for first
abbrev pub may_have_acted : List Text → Bool
may_have_acted words = has_body (request_of words) && length (places_of words) == 0

-- ---- the words by which a call goes on

-- a quote in a word ends it, stands for itself, and begins it again
abbrev pub escaped_byte : ℕ → Text
escaped_byte byte = if byte == 39 then codes "'\\''" else byte ∷ []

abbrev pub escaped : Text → Text
escaped word = flat_map escaped_byte word

-- a blank and the word between quotes
abbrev pub quoted_word : Text → Text
quoted_word word = codes " '" ++ escaped word ++ codes "'"

abbrev pub quoted_words : List Text → Text
quoted_words words = flat_map quoted_word words

-- what is shown in place of the words of a call that may be keys
abbrev pub first_of : Word → Text → Text
first_of word.OwnKey first = codes "OLD"
first_of other first = first

-- `none` is no key
abbrev pub unless_none : Text → Text
unless_none second = if bytes_eq second (codes "none") then second else codes "KEY"

abbrev pub second_of : Word → Text → Text
second_of word.OwnKey second = codes "NEW"
second_of word.Key second = unless_none second
second_of word.Person second = unless_none second
second_of other second = second

abbrev pub first_if : Option Word → Text → Text
first_if None first = first
first_if (Some named) first = first_of named first

abbrev pub second_if : Option Word → Text → Text
second_if None second = second
second_if (Some named) second = second_of named second

abbrev pub shown_first : Text → Text → Text
shown_first name first = first_if (word_named name) first

abbrev pub shown_second : Text → Text → Text
shown_second name second = second_if (word_named name) second

-- calls with keys have three words
-- Rule: no key is printed with the words for resuming. Tried by client.sh.
abbrev pub shown_words : List Text → List Text
shown_words [] = []
shown_words (word ∷ []) = word ∷ []
shown_words (word ∷ first ∷ []) = word ∷ first ∷ []
shown_words (word ∷ first ∷ second ∷ []) =
    word ∷ shown_first word first ∷ shown_second word second ∷ []
shown_words (word ∷ first ∷ second ∷ third ∷ words) = word ∷ first ∷ second ∷ third ∷ words

abbrev pub id_words : Option ℕ → Text
id_words None = []
id_words (Some id) = codes " --id " ++ id_text id

-- `taskboard send --id UUID SERVER MEMBER KEY 'WORD' ..`, in which no key stands
abbrev pub words_again : SendOrder → Text
words_again order =
    codes "taskboard send" ++ (id_words order.id
    ++ (codes " " ++ (order.server
    ++ (codes " " ++ (order.member ++ (codes " KEY" ++ quoted_words (shown_words order.words)))))))

-- ---- what is told

-- what happened, and on the next line the words by which a call is resumed
abbrev pub with_words : Text → SendOrder → Text
with_words told order = told ++ (codes "\n" ++ words_again order)

-- `taskboard send SERVER MEMBER - own-key`, whose keys are in files
abbrev pub change_again : SendOrder → Text
change_again order =
    codes "taskboard send " ++ (order.server
    ++ (codes " " ++ (order.member ++ codes " - own-key")))

-- of a change of the own key, how it goes on
abbrev pub change_going_on : SendOrder → Text
change_going_on order = GO_ON_KEY.now ++ (codes "\n" ++ change_again order)

-- of a view that nothing was to change
abbrev pub unanswered_text : SendOrder → Text
unanswered_text order =
    if is_own_key_alone order.words then change_going_on order
    else if may_have_acted order.words then with_words GO_ON.now order
    else UNCHANGED.now

-- without memory to tell a view from a call, or for the words, that it is to go on
abbrev pub IsUnanswered : SendOrder → Text → Type 0
IsUnanswered order text = IsEither (unanswered_text order) GO_ON.now text

-- of an answer that couldn't be printed: a view is asked again
abbrev pub unprinted_text : SendOrder → Text
unprinted_text order =
    if may_have_acted order.words then with_words UNPRINTED.now order else UNPRINTED.now

abbrev pub IsUnprinted : SendOrder → Text → Type 0
IsUnprinted order text = IsEither (unprinted_text order) UNPRINTED.now text
