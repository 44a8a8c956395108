-- What words of `my` come to.
use Rattle.std.specs.Prelude.{◌≡◌, ◌⊎◌, ℕ, Bool, true, false, IfSome, List, [], ◌∷◌, ◌++◌, codes, Ok, Option, Some, None, if◌then◌else◌}
use Rattle.std.specs.Io.KnownBytes.{Appends}
use Rattle.std.specs.Str.{bytes_eq}
use Rattle.tb_caller.specs.Asking.{AreSentBy}
use Rattle.tb_caller.specs.Ending.{ending_if}
use Rattle.tb_cleaning.specs.Cleaning.{Cleans}
use Rattle.tb_cleaning.specs.declared.cleaning.Cleaned.{Cleaned}
use Rattle.tb_client.specs.Asking.{Event}
use Rattle.tb_command_line.specs.declared.order.ImportKind.{ImportKind}
use Rattle.tb_command_line.specs.declared.order.ImportKind.TheVariants.{Json, Todo}
use Rattle.tb_mine.specs.Asked.{Asked, IsAskedFor, IsDone, IsRefused, Output}
use Rattle.tb_mine.specs.Found.{IsDoneOnBoard}
use Rattle.tb_mine.specs.Imported.{AreImported}
use Rattle.tb_mine.specs.Naming.{IsFound, IsNumbered}
use Rattle.tb_mine.specs.Printed.{told_line}
use Rattle.tb_mine.specs.declared.context.Context.{Context}
use Rattle.tb_my.specs.Bringing.{import_of}
use Rattle.tb_my.specs.Days.{Text}
use Rattle.tb_my.specs.Importing.{is_json, without_mark}
use Rattle.tb_my.specs.Options.{board_given, help_asked, words_after_options}
use Rattle.tb_my.specs.Undo.{kept_rest, undone_in}
use Rattle.tb_my.specs.declared.bringing.ImportMode.{ImportMode}
use Rattle.tb_my.specs.declared.bringing.ImportMode.TheVariants as mode
use Rattle.tb_my.specs.declared.settings.Asker.{Asker}
use Rattle.tb_orders.specs.Lists.{IsCut}
use Rattle.tb_orders.specs.declared.ending.Ending.{Ending}
use Rattle.tb_orders.specs.declared.ending.Ending.TheVariants.{Accepted, Refused}
use Rattle.tb_sending.specs.declared.server_line.ServerLine.{ServerLine}

-- ---- which words they are

abbrev pub is_alone : List Text → Text → Bool
is_alone [] name = false
is_alone (word ∷ []) name = bytes_eq word name
is_alone (word ∷ next ∷ words) name = false

-- the one word after a word of this name
abbrev pub argument_of : List Text → Text → Option Text
argument_of [] name = None
argument_of (word ∷ []) name = None
argument_of (word ∷ argument ∷ []) name = if bytes_eq word name then Some argument else None
argument_of (word ∷ argument ∷ next ∷ words) name = None

-- the board of `use` or of `--board`, which goes before that of the settings
abbrev pub or_given : Option Text → Option Text → Option Text
or_given (Some board) given = Some board
or_given None given = given

abbrev pub named_board : List Text → Option Text
named_board all = or_given (argument_of (words_after_options all) (codes "use")) (board_given all)

abbrev pub if_check : ImportMode → Text → Option Text
if_check mode.Check path = Some path
if_check how path = None

abbrev pub checked_in : Option (Text × ImportMode) → Option Text
checked_in None = None
checked_in (Some file) = if_check file.1 file.0

-- the file of an import that is only looked at
abbrev pub checked_path : List Text → Option Text
checked_path words = checked_in (import_of words)

-- ---- words of a board

-- boards are listed without one
abbrev pub IsDoneIf : Bool → Context → List Text → Asker → List Asked → Output → Output → Bool
    → Type 0
IsDoneIf true context words asker asked before after is_accepted =
    IsDone context words asked before after is_accepted
IsDoneIf false context words asker asked before after is_accepted =
    (asker.board ≡ Some context.board)
    × IsDoneOnBoard context words asked before after is_accepted

-- Which moment, zone and terminal the machine gives isn't known.
abbrev pub IsDoneOfBoard : List Text → Output → Output → Asker → List Asked → Bool → Type 0
IsDoneOfBoard words before after asker asked is_accepted =
    (context : Context) × (context.me ≡ asker.name)
    × IsDoneIf (is_alone words (codes "boards")) context words asker asked before after is_accepted

-- ---- another board

abbrev pub used_line : Text → Text
used_line board = (codes "From now on: board " ++ board) ++ 10 ∷ []

-- Where it can't be kept, that is refused.
abbrev pub IsWritten : Text → Output → Output → Bool → Type 0
IsWritten name before after is_accepted = ((after ≡ before) × (is_accepted ≡ false))
    ⊎ (Appends before after (used_line name) × (is_accepted ≡ true))

-- It is kept where the person has it.
abbrev pub IsKept : Option Text → Text → Output → Output → Bool → Type 0
IsKept None name before after is_accepted = (after ≡ before) × (is_accepted ≡ false)
IsKept (Some board) name before after is_accepted = IsWritten name before after is_accepted

abbrev pub IsUsed : Text → Output → Output → Asker → List Asked → Bool → Type 0
IsUsed name before after asker asked is_accepted = (look : Asked) × (asked ≡ look ∷ [])
    × (board : Option Text) × IsNumbered name look board
    × IsKept board name before after is_accepted

-- ---- what takes back the last calls

-- none was kept, or what some text says of this person and server, since which one was kept isn't known
abbrev pub IsUndone : Output → Output → Asker → List Asked → Bool → Type 0
IsUndone before after asker asked is_accepted = IsRefused asked before after is_accepted
    ⊎ ((kept : Text) × IsAskedFor told_line (undone_in asker.server asker.name kept)
    asked before after is_accepted)

-- the text that the folder's file has, from which that is gone then
abbrev pub IsTakenBack : {F : Type 0} → (F → Text → Text → Type 0) → F → F → Output → Output → Asker
    → List Asked → Bool → Text → Type 0
IsTakenBack has old new before after asker asked is_accepted kept = has old (codes "undo") kept
    × has new (codes "undo") (kept_rest kept)
    × (IsRefused asked before after is_accepted
    ⊎ IsAskedFor told_line (undone_in asker.server asker.name kept) asked before after is_accepted)

-- or nothing is kept of this person and server, and the folder is as it was
abbrev pub IsUndoneIn : {F : Type 0} → (F → Text → Text → Type 0) → F → F → Output → Output → Asker
    → List Asked → Bool → Type 0
IsUndoneIn has old new before after asker asked is_accepted =
    ((new ≡ old) × IsRefused asked before after is_accepted)
    ⊎ ((kept : Text) × IsTakenBack has old new before after asker asked is_accepted kept)

-- ---- imports

-- the input, or a file, of which nothing is known
abbrev pub IsTextIf : Bool → Option Text → Text → Type 0
IsTextIf true input text = IfSome input (λ all. text ≡ all)
IsTextIf false input text = Unit {0}

abbrev pub IsTextOf : Text → Option Text → Text → Type 0
IsTextOf path input text = IsTextIf (bytes_eq path (codes "-")) input text

-- unless tasks are skipped, all of them are taken
pub record IsCleanText (skips : Bool) (text bytes : Text) : Type 0 where
  pub cleaned : Cleaned
  pub cleans : Cleans skips text (Ok cleaned)
  pub whole : skips ≡ false → cleaned.is_whole ≡ true
  pub is : bytes ≡ cleaned.text

abbrev pub IsBringing : ImportMode → Text → Text → Type 0
IsBringing mode.AsItIs text bytes = bytes ≡ without_mark text
IsBringing mode.Skip text bytes = IsCleanText true text bytes
IsBringing mode.Clean text bytes = IsCleanText false text bytes
IsBringing mode.Check text bytes = IsCleanText false text bytes

abbrev pub kind_of : Text → ImportKind
kind_of text = if is_json text then Json else Todo

-- a text, as it is or cleaned, in parts
pub record IsImportedInto (board path : Text) (how : ImportMode) (input : Option Text)
    (before after : Output) (asked : List Asked) (is_accepted : Bool) : Type 0 where
  pub text : Text
  pub of : IsTextOf path input text
  pub bytes : Text
  pub bringing : IsBringing how text bytes
  pub parts : List Text
  pub cut : IsCut (kind_of text) bytes (Some parts)
  pub imported : AreImported (is_json text) board parts asked before after is_accepted

-- What can't be read, cleaned or cut is refused.
abbrev pub IsImportedAt : Option Text → Text → ImportMode → Option Text → Output → Output
    → List Asked → Bool → Type 0
IsImportedAt None path how input before after asked is_accepted =
    IsRefused asked before after is_accepted
IsImportedAt (Some board) path how input before after asked is_accepted =
    IsRefused asked before after is_accepted
    ⊎ IsImportedInto board path how input before after asked is_accepted

pub record IsImported (path : Text) (how : ImportMode) (input : Option Text)
    (before after : Output) (asker : Asker) (asked : List Asked) (is_accepted : Bool) : Type 0 where
  pub name : Text
  pub named : asker.board ≡ Some name
  pub look : List Asked
  pub board : Option Text
  pub found : IsFound name look board
  pub more : List Asked
  pub first : asked ≡ look ++ more
  pub imported : IsImportedAt board path how input before after more is_accepted

-- Nothing is asked for. What can't be read or cleaned is refused.
abbrev pub IsChecked : Text → Option Text → Output → Output → Ending → Type 0
IsChecked path input before after ending = ((ending ≡ Refused) × (after ≡ before))
    ⊎ ((text : Text) × IsTextOf path input text × (cleaned : Cleaned)
    × Cleans false text (Ok cleaned) × (ending ≡ ending_if cleaned.is_whole)
    × Appends before after cleaned.notes)

-- ---- all words

abbrev pub ComesBy : Option Text → Option (Text × ImportMode) → Bool → List Text → Option Text
    → Output → Output → Asker → List Asked → Bool → Type 0
ComesBy (Some board) import undo words input before after asker asked is_accepted =
    IsUsed board before after asker asked is_accepted
ComesBy None (Some file) undo words input before after asker asked is_accepted =
    IsImported file.0 file.1 input before after asker asked is_accepted
ComesBy None None true words input before after asker asked is_accepted =
    IsUndone before after asker asked is_accepted
ComesBy None None false words input before after asker asked is_accepted =
    IsDoneOfBoard words before after asker asked is_accepted

abbrev pub ComesTo : List Text → Option Text → Output → Output → Asker → List Asked → Bool → Type 0
ComesTo words = ComesBy (argument_of words (codes "use")) (import_of words)
    (is_alone words (codes "undo")) words

module _ {M G : Type 0} (follows : List Event → ServerLine M → ServerLine M → Type 0)
    (gives : Option (List ℕ) → G → G → Type 0) where
  -- By some settings of the machine, with the board that is named, this was sent, and nothing else.
  pub record IsAsked (board : Option Text) (words : List Text) (input : Option Text)
      (before after : Output) (ending : Ending) : Type 0 where
    pub asker : Asker
    pub key : Option Text
    pub named : IfSome board (λ name. asker.board ≡ Some name)
    pub asked : List Asked
    pub first : G
    pub last : G
    pub sent : AreSentBy follows gives asker key asked first last
    pub is_accepted : Bool
    pub is : ending ≡ ending_if is_accepted
    pub comes : ComesTo words input before after asker asked is_accepted

  -- of `setup` nothing is said; help is printed, and nothing else is done
  abbrev pub IsMineBy : Option Text → Bool → Option Text → List Text → Option Text → Output
      → Output → Ending → Type 0
  IsMineBy (Some text) setup checked all input before after ending =
      (ending ≡ Accepted) × Appends before after text
  IsMineBy None true checked all input before after ending = Unit {0}
  IsMineBy None false (Some path) all input before after ending =
      IsChecked path input before after ending
  IsMineBy None false None all input before after ending =
      IsAsked (named_board all) (words_after_options all) input before after ending

  abbrev pub IsMine : List Text → Option Text → Output → Output → Ending → Type 0
  IsMine all = IsMineBy (help_asked (words_after_options all))
      (is_alone (words_after_options all) (codes "setup"))
      (checked_path (words_after_options all)) all
