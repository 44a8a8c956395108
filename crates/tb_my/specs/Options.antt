-- The options in front of words, the words of a list, and what asks for help.
use Rattle.std.specs.Prelude.{ℕ, Bool, true, false, List, [], ◌∷◌, codes, Option, Some, None, option_map, option_and_then, Result, Ok, if◌then◌else◌}
use Rattle.std.specs.Str.{bytes_eq}
use Rattle.tb_my.specs.Days.{Text}
use Rattle.tb_my.specs.Help.{help_text}
use Rattle.tb_my.specs.Outcome.{or_fault}
use Rattle.tb_my.specs.Word.{my_word_named}
use Rattle.tb_my.specs.declared.fault.MyFault.{MyFault}
use Rattle.tb_my.specs.declared.fault.MyFault.TheVariants.{NoSeconds}
use Rattle.tb_my.specs.declared.help.TheConstants.{HELP}
use Rattle.tb_my.specs.declared.query.Listing.{Listing}
use Rattle.tb_my.specs.declared.query.Listing.TheVariants as listing
use Rattle.tb_my.specs.declared.word.MyWord.{MyWord}
use Rattle.tb_my.specs.declared.word.MyWord.TheVariants as word
use Rattle.tb_values.specs.Numerals.{number_to}

-- ---- options

-- what stands after an option in front of the words
abbrev pub first_option : Text → List Text → Option Text
first_option name (option ∷ value ∷ words) = if bytes_eq option name then Some value else None
first_option name (option ∷ []) = None
first_option name [] = None

abbrev pub after_option : Text → List Text → List Text
after_option name (option ∷ value ∷ words) =
    if bytes_eq option name then words else option ∷ value ∷ words
after_option name (option ∷ []) = option ∷ []
after_option name [] = []

abbrev pub or_board : Option Text → Option Text → Option Text
or_board (Some board) other = Some board
or_board None other = other

-- the board after `--board`, before or after `--for`
abbrev pub board_given : List Text → Option Text
board_given words = or_board (first_option (codes "--board") words)
    (first_option (codes "--board") (after_option (codes "--for") words))

abbrev pub seconds_in : Option Text → Result ℕ MyFault
seconds_in None = Ok 60
seconds_in (Some text) = or_fault (NoSeconds text) (number_to 86400 text)

-- how long a call is sent again, by the number after `--for`
abbrev pub seconds_given : List Text → Result ℕ MyFault
seconds_given words =
    seconds_in (first_option (codes "--for") (after_option (codes "--board") words))

-- the words without these options
abbrev pub words_after_options : List Text → List Text
words_after_options words = after_option (codes "--board")
    (after_option (codes "--for") (after_option (codes "--board") words))

-- ---- lists

abbrev pub listing_of : MyWord → Option Listing
listing_of word.List = Some listing.Tasks
listing_of word.Next = Some listing.Next
listing_of word.Projects = Some listing.Projects
listing_of word.Tags = Some listing.Tags
listing_of other = None

abbrev pub listing_named : Text → Option Listing
listing_named word = option_and_then listing_of (my_word_named word)

-- what is listed, and the words after that, or none
abbrev pub listed_words : List Text → Option (Listing × List Text)
listed_words [] = Some (listing.Tasks, [])
listed_words (word ∷ words) = option_map (λ (l : Listing). (l, words)) (listing_named word)

-- ---- help

abbrev pub asks_help : List Text → Bool
asks_help [] = false
asks_help (word ∷ words) =
    if bytes_eq word (codes "--help") then true
    else if bytes_eq word (codes "--") then false
    else asks_help words

abbrev pub help_of : Text → Option Text
help_of word = option_map help_text (my_word_named word)

abbrev pub help_if : Text → List Text → Option Text
help_if word rest = if asks_help rest then help_of word else None

-- `help`, alone or before a word, or a word with `--help` after it
-- Rule: `--help` after a word shows what it takes, and does nothing else. Tried by my.sh.
abbrev pub help_asked : List Text → Option Text
help_asked [] = None
help_asked (word ∷ []) =
    if bytes_eq word (codes "help") then Some HELP.now else help_if word []
help_asked (word ∷ named ∷ []) =
    if bytes_eq word (codes "help") then help_of named else help_if word (named ∷ [])
help_asked (word ∷ a ∷ b ∷ more) = help_if word (a ∷ b ∷ more)
