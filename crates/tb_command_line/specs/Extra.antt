-- The options `--page FOLDER`, `--growth KIB` and `--burst MIB` of a server, which may stand anywhere behind its order, and `--check`, `--clean`
-- and `--skip`, one of which may stand behind all other words of an import.
use Rattle.std.specs.Prelude.{ℕ, suc, ◌+◌, ◌-◌, ◌&&◌, Bool, true, false, List, [], ◌∷◌, ◌++◌, codes, take, drop, length, nat_lt, slice_get, Option, Some, None, is_some, option_and_then, Result, Ok, Err, if◌then◌else◌}
use Rattle.std.specs.Str.{bytes_eq}
use Rattle.tb_command_line.specs.declared.order.CleanMode.{CleanMode}
use Rattle.tb_command_line.specs.declared.order.CleanMode.TheVariants as mode
use Rattle.tb_command_line.specs.declared.order.ImportKind.{ImportKind}
use Rattle.tb_command_line.specs.declared.order.ImportKind.TheVariants as kind
use Rattle.tb_command_line.specs.declared.order.ImportOrder.{ImportOrder}
use Rattle.tb_command_line.specs.declared.order.Order.{Order}
use Rattle.tb_command_line.specs.declared.order.Order.TheVariants.{Init, Serve, Run, Import, ImportAll, Clean, View, Check, Key, Send, My, Help, Version}
use Rattle.tb_command_line.specs.declared.order.WordsFault.{WordsFault}
use Rattle.tb_command_line.specs.declared.order.WordsFault.TheVariants.{Bad}
use Rattle.tb_command_line.specs.Order.{Text}
use Rattle.tb_values.specs.Numerals.{number_to}

-- the words begin with the option of this name and a word behind it
abbrev pub is_option_front : Text → List Text → Bool
is_option_front name (word ∷ text ∷ rest) = bytes_eq word name
is_option_front name (word ∷ []) = false
is_option_front name [] = false

-- where they first do, or how many there are
abbrev pub option_place : Text → List Text → ℕ
option_place name [] = 0
option_place name (word ∷ rest) =
    if is_option_front name (word ∷ rest) then 0 else suc (option_place name rest)

abbrev pub serves : List Text → Bool
serves [] = false
serves (word ∷ rest) = bytes_eq word (codes "serve")

abbrev pub has_option : Text → List Text → Bool
has_option name words = serves words && nat_lt (option_place name words + 1) (length words)

-- the word behind the option, where it is given
abbrev pub option_in : Text → List Text → Option Text
option_in name words =
    if has_option name words then slice_get words (option_place name words + 1) else None

-- the words without the option
abbrev pub without_option : Text → List Text → List Text
without_option name words = if has_option name words
    then take (option_place name words) words ++ drop (option_place name words + 2) words
    else words

abbrev pub page_in : List Text → Option Text
page_in words = option_in (codes "--page") words

abbrev pub growth_in : List Text → Option Text
growth_in words = option_in (codes "--growth") words

abbrev pub burst_in : List Text → Option Text
burst_in words = option_in (codes "--burst") words

abbrev pub without_page : List Text → List Text
without_page words = without_option (codes "--page") words

abbrev pub without_growth : List Text → List Text
without_growth words = without_option (codes "--growth") words

abbrev pub without_burst : List Text → List Text
without_burst words = without_option (codes "--burst") words

-- ---- `--check`, `--clean` and `--skip`

unfoldable pub mode_named : Text → Option CleanMode
mode_named word =
    if bytes_eq word (codes "--check") then Some mode.Check
    else if bytes_eq word (codes "--clean") then Some mode.Clean
    else if bytes_eq word (codes "--skip") then Some mode.Skip
    else None

abbrev pub imports : List Text → Bool
imports [] = false
imports (word ∷ rest) = bytes_eq word (codes "import")

-- the last of three words or more
abbrev pub last_word : List Text → Option Text
last_word words = if nat_lt 2 (length words) then slice_get words (length words - 1) else None

-- what the last word of an import says
abbrev pub mode_in : List Text → Option CleanMode
mode_in words = if imports words then option_and_then mode_named (last_word words) else None

-- how many words are left without the last, where that is an option
abbrev pub count_without : {A : Type 0} → Bool → List A → ℕ
count_without true words = length words - 1
count_without false words = length words

abbrev pub without_mode : List Text → List Text
without_mode words = if is_some (mode_in words) then take (length words - 1) words else words

-- of JSON alone
-- Rule: JSON alone is cleaned. Refused as Bad. Tried by words.
abbrev pub cleaned : CleanMode → Bool → ImportOrder → Result Order WordsFault
cleaned mode is_all import = if_json import.kind
  where
    if_json : ImportKind → Result Order WordsFault
    if_json kind.Json = Ok (Clean (record { mode = mode; is_all = is_all; import = import }))
    if_json kind.Todo = Err Bad

-- an import whose text is cleaned first
abbrev pub cleaning : CleanMode → Order → Result Order WordsFault
cleaning mode (Import order) = cleaned mode false order
cleaning mode (ImportAll order) = cleaned mode true order
cleaning mode (Init order) = Err Bad
cleaning mode (Serve order) = Err Bad
cleaning mode Run = Err Bad
cleaning mode (Clean order) = Err Bad
cleaning mode (View order) = Err Bad
cleaning mode (Check file) = Err Bad
cleaning mode (Key order) = Err Bad
cleaning mode (Send order) = Err Bad
cleaning mode (My order) = Err Bad
cleaning mode (Help topic) = Err Bad
cleaning mode Version = Err Bad

abbrev pub with_mode : Option CleanMode → Result Order WordsFault → Result Order WordsFault
with_mode None order = order
with_mode (Some mode) (Ok order) = cleaning mode order
with_mode (Some mode) (Err fault) = Err fault

-- ---- all of them

-- the words without the options of a server
abbrev pub without_server : List Text → List Text
without_server words = without_burst (without_growth (without_page words))

-- the words without any of these
abbrev pub without_extra : List Text → List Text
without_extra words = without_server (without_mode words)

-- a server's order with the folder
abbrev pub paged : Text → Order → Order
paged page (Serve order) = Serve (record order { page = Some page })
paged page (Init order) = Init order
paged page Run = Run
paged page (Import order) = Import order
paged page (ImportAll order) = ImportAll order
paged page (Clean order) = Clean order
paged page (View order) = View order
paged page (Check file) = Check file
paged page (Key order) = Key order
paged page (Send order) = Send order
paged page (My order) = My order
paged page (Help topic) = Help topic
paged page Version = Version

abbrev pub with_page : Option Text → Result Order WordsFault → Result Order WordsFault
with_page None order = order
with_page (Some page) (Ok order) = Ok (paged page order)
with_page (Some page) (Err fault) = Err fault

-- 0, for no bound, or up to 1048576
-- Rule: --growth is 0 to 1,048,576. Refused as Bad. Tried by words.
abbrev pub growth_of : Text → Option ℕ
growth_of text = if bytes_eq text (codes "0") then Some 0 else number_to 1048576 text

-- a server's order with how much a person may add in a second, in KiB
abbrev pub grown : ℕ → Order → Order
grown growth (Serve order) = Serve (record order { growth = growth })
grown growth (Init order) = Init order
grown growth Run = Run
grown growth (Import order) = Import order
grown growth (ImportAll order) = ImportAll order
grown growth (Clean order) = Clean order
grown growth (View order) = View order
grown growth (Check file) = Check file
grown growth (Key order) = Key order
grown growth (Send order) = Send order
grown growth (My order) = My order
grown growth (Help topic) = Help topic
grown growth Version = Version

-- a server's order with how much a person may add at once, in MiB
abbrev pub bursting : ℕ → Order → Order
bursting burst (Serve order) = Serve (record order { burst = burst })
bursting burst (Init order) = Init order
bursting burst Run = Run
bursting burst (Import order) = Import order
bursting burst (ImportAll order) = ImportAll order
bursting burst (Clean order) = Clean order
bursting burst (View order) = View order
bursting burst (Check file) = Check file
bursting burst (Key order) = Key order
bursting burst (Send order) = Send order
bursting burst (My order) = My order
bursting burst (Help topic) = Help topic
bursting burst Version = Version

-- an order with a number, where that is one
abbrev pub with_number : (ℕ → Order → Order) → Option ℕ → Order → Result Order WordsFault
with_number change None order = Err Bad
with_number change (Some number) order = Ok (change number order)

abbrev pub with_growth : Option Text → Result Order WordsFault → Result Order WordsFault
with_growth None order = order
with_growth (Some text) (Ok order) = with_number grown (growth_of text) order
with_growth (Some text) (Err fault) = Err fault

-- Rule: --burst is 1 to 1,048,576. Refused as Bad. Tried by words.
abbrev pub with_burst : Option Text → Result Order WordsFault → Result Order WordsFault
with_burst None order = order
with_burst (Some text) (Ok order) = with_number bursting (number_to 1048576 text) order
with_burst (Some text) (Err fault) = Err fault

-- what the options of a server say, each of the words that are left of those before it
abbrev pub with_server : List Text → Result Order WordsFault → Result Order WordsFault
with_server words order =
    with_page (page_in words)
    (with_growth (growth_in (without_page words))
    (with_burst (burst_in (without_growth (without_page words))) order))

-- what all of these say
abbrev pub with_extra : List Text → Result Order WordsFault → Result Order WordsFault
with_extra words order = with_mode (mode_in words) (with_server (without_mode words) order)
