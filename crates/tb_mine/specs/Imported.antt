-- Imports of the parts of a text, up to one that is refused, and what is printed of them.
use Rattle.std.specs.Prelude.{◌≡◌, Bool, true, false, List, [], ◌∷◌, ◌++◌, None}
use Rattle.std.specs.Io.KnownBytes.{Appends}
use Rattle.tb_mine.specs.Asked.{Asked, Output, all_accepted}
use Rattle.tb_mine.specs.Printed.{if_accepted}
use Rattle.tb_mine.specs.declared.asks.Answer.{Answer}
use Rattle.tb_my.specs.Days.{Text}
use Rattle.tb_my.specs.Importing.{import_told, import_words}

abbrev pub IsImport : Bool → Text → Text → Asked → Type 0
IsImport is_json board part asked =
    (asked.words ≡ import_words is_json board part) × (asked.call ≡ None)

-- nothing comes after a refusal
abbrev pub GoesOnIf : Bool → Type 0 → List Asked → Type 0
GoesOnIf true goes_on more = goes_on
GoesOnIf false goes_on more = more ≡ []

-- each part was asked for, in this order
abbrev pub AreImports : Bool → Text → List Text → List Asked → Type 0
AreImports is_json board [] [] = Unit {0}
AreImports is_json board [] (asked ∷ more) = ⊥
AreImports is_json board (part ∷ parts) [] = ⊥
AreImports is_json board (part ∷ parts) (asked ∷ more) =
    IsImport is_json board part asked
    × GoesOnIf asked.answer.is_accepted (AreImports is_json board parts more) more

-- what came of an import, in a line
abbrev pub imported_line : Answer → Text
imported_line answer = if_accepted answer (import_told answer.body ++ 10 ∷ [])

abbrev pub imported_lines : List Asked → Text
imported_lines [] = []
imported_lines (asked ∷ more) = imported_line asked.answer ++ imported_lines more

pub record AreImported (is_json : Bool) (board : Text) (parts : List Text) (asked : List Asked)
    (before after : Output) (is_accepted : Bool) : Type 0 where
  pub each : AreImports is_json board parts asked
  pub accepted : is_accepted ≡ all_accepted asked
  pub printed : Appends before after (imported_lines asked)
