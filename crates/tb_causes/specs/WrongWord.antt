-- Which word is wrong of words that are no order, and what is told of it.
use Rattle.std.specs.Prelude.{◌==◌, ◌||◌, Bool, true, false, not, List, [], ◌∷◌, codes, filter, is_some, length, nat_le, Option, Some, None, if◌then◌else◌}
use Rattle.std.specs.List.{list_any}
use Rattle.std.specs.Str.{bytes_eq}
use Rattle.tb_causes.specs.declared.wrong_word.Form.{Form}
use Rattle.tb_causes.specs.declared.wrong_word.Form.TheVariants.{File, Name, Key, Id, Board, Kind, Seconds, Server, Dash}
use Rattle.tb_causes.specs.declared.wrong_word.TheConstants.{CHECK_USAGE, IMPORT_USAGE, INIT_USAGE, KEY_USAGE, NO_ORDER, RUN_USAGE, SEND_USAGE, SERVE_USAGE, VIEW_USAGE, WRONG_BOARD, WRONG_DASH, WRONG_FILE, WRONG_ID, WRONG_KEY, WRONG_KIND, WRONG_NAME, WRONG_SECONDS, WRONG_SERVER}
use Rattle.tb_causes.specs.Told.{Text}
use Rattle.tb_board.specs.Names.{read_key, read_name}
use Rattle.tb_command_line.specs.Sending.{is_server, option_value, seconds_in}
use Rattle.tb_task.specs.TaskId.{read_id}
use Rattle.tb_values.specs.Numerals.{number_to}

-- ---- one word

-- the word has the form
abbrev pub is_of : Text → Form → Bool
is_of word File = true
is_of word Name = is_some (read_name word)
is_of word Key = bytes_eq word (codes "-") || is_some (read_key word)
is_of word Id = is_some (read_id word)
is_of word Board = is_some (number_to 4294967295 word)
is_of word Kind = bytes_eq word (codes "json") || bytes_eq word (codes "todo")
is_of word Seconds = is_some (seconds_in word)
is_of word Server = is_server word
is_of word Dash = bytes_eq word (codes "-")

abbrev pub form_text : Form → Text
form_text File = WRONG_FILE.now
form_text Name = WRONG_NAME.now
form_text Key = WRONG_KEY.now
form_text Id = WRONG_ID.now
form_text Board = WRONG_BOARD.now
form_text Kind = WRONG_KIND.now
form_text Seconds = WRONG_SECONDS.now
form_text Server = WRONG_SERVER.now
form_text Dash = WRONG_DASH.now

-- ---- words of forms

-- of the first word that hasn't its form, or else how the words are to be
abbrev pub first_wrong : Text → List Text → List Form → Text
first_wrong usage [] forms = usage
first_wrong usage (word ∷ words) [] = usage
first_wrong usage (word ∷ words) (form ∷ forms) =
    if is_of word form then first_wrong usage words forms else form_text form

-- the same, where there are as many words as forms
abbrev pub wrong_of : Text → List Text → List Form → Text
wrong_of usage words forms =
    if length words == length forms then first_wrong usage words forms else usage

-- the words that aren't `--all`
abbrev pub others_of : List Text → List Text
others_of words = filter (λ word. not (bytes_eq word (codes "--all"))) words

abbrev pub wrong_of_import : List Text → Text
wrong_of_import words =
    wrong_of IMPORT_USAGE.now (others_of words) (File ∷ Name ∷ Key ∷ Id ∷ Board ∷ Kind ∷ [])

-- of `key`, whose third word may be missing
abbrev pub wrong_of_key : List Text → Text
wrong_of_key words = if length words == 3 then wrong_of KEY_USAGE.now words (File ∷ Name ∷ Dash ∷ [])
    else wrong_of KEY_USAGE.now words (File ∷ Name ∷ [])

-- ---- options in front of words

-- the word behind an option, where there is one, lacks the form
abbrev pub lacks_form : Form → Option Text → Bool
lacks_form form None = false
lacks_form form (Some value) = not (is_of value form)

abbrev pub is_wrong_option : Text → Form → List Text → Bool
is_wrong_option name form words = lacks_form form (option_value name words)

-- the words behind an option and its value, where they begin with it
abbrev pub behind : List Text → Text → List Text
behind [] name = []
behind (first ∷ []) name = first ∷ []
behind (first ∷ value ∷ rest) name =
    if bytes_eq first name then rest else first ∷ value ∷ rest

-- behind the options: a word at least stands behind those of forms
abbrev pub wrong_of_sent : List Text → Text
wrong_of_sent words = if nat_le (length words) 3 then SEND_USAGE.now
    else first_wrong SEND_USAGE.now words (Server ∷ Name ∷ Key ∷ [])

abbrev pub wrong_of_send : List Text → Text
wrong_of_send words =
    if is_wrong_option (codes "--id") Id words then WRONG_ID.now
    else if is_wrong_option (codes "--for") Seconds (behind words (codes "--id"))
    then WRONG_SECONDS.now
    else wrong_of_sent (behind (behind words (codes "--id")) (codes "--for"))

-- ---- words of orders

unfoldable pub order_text : Text → List Text → Text
order_text order rest =
    if bytes_eq order (codes "init")
    then wrong_of INIT_USAGE.now rest (File ∷ Name ∷ Key ∷ [])
    else if bytes_eq order (codes "import") then wrong_of_import rest
    else if list_any (bytes_eq order) (codes "list" ∷ codes "export" ∷ codes "todo" ∷ [])
    then wrong_of VIEW_USAGE.now rest (File ∷ Name ∷ Key ∷ Board ∷ [])
    else if bytes_eq order (codes "check") then CHECK_USAGE.now
    else if bytes_eq order (codes "key") then wrong_of_key rest
    else if bytes_eq order (codes "run") then RUN_USAGE.now
    else if bytes_eq order (codes "serve") then SERVE_USAGE.now
    else if bytes_eq order (codes "send") then wrong_of_send rest
    else NO_ORDER.now

abbrev pub wrong_text : List Text → Text
wrong_text [] = NO_ORDER.now
wrong_text (order ∷ rest) = order_text order rest
