-- What the words of an import ask for.
use Rattle.std.specs.Prelude.{List, [], ◌∷◌, codes, Option, Some, None, option_map, if◌then◌else◌}
use Rattle.std.specs.Str.{bytes_eq}
use Rattle.tb_my.specs.Days.{Text}
use Rattle.tb_my.specs.declared.bringing.ImportMode.{ImportMode}
use Rattle.tb_my.specs.declared.bringing.ImportMode.TheVariants.{AsItIs, Check, Clean, Skip}

unfoldable pub mode_named : Text → Option ImportMode
mode_named option =
    if bytes_eq option (codes "--check") then Some Check
    else if bytes_eq option (codes "--clean") then Some Clean
    else if bytes_eq option (codes "--skip") then Some Skip
    else None

-- a file, and perhaps an option after it
abbrev pub import_of : List Text → Option (Text × ImportMode)
import_of (word ∷ path ∷ []) =
    if bytes_eq word (codes "import") then Some (path, AsItIs) else None
import_of (word ∷ path ∷ option ∷ []) =
    if bytes_eq word (codes "import")
    then option_map (λ (mode : ImportMode). (path, mode)) (mode_named option) else None
import_of words = None
