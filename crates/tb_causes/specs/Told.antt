-- What is told, and that it came out.
use Rattle.std.specs.Prelude.{◌≡◌, ◌⊎◌, ℕ, List, [], ◌∷◌, ◌++◌, Option}
use Rattle.std.specs.Io.KnownBytes.{Appends}
use Rattle.tb_causes.specs.declared.told.Told.{Told}
use Rattle.tb_causes.specs.declared.told.Told.TheVariants.{Fixed, Made}
use Rattle.tb_values.specs.Appends.{AppendsFront}

abbrev pub Text : Type 0
Text = List ℕ

abbrev pub told_text : Told → Text
told_text (Fixed text) = text.now
told_text (Made text) = text

-- a text that has to be made, or without memory a plain one
abbrev pub IsEither : Text → Text → Text → Type 0
IsEither made plain text = (text ≡ made) ⊎ (text ≡ plain)

-- known bytes grow by one of the texts that may be told, on lines
abbrev pub AppendsTold : (Text → Type 0) → Option Text → Option Text → Type 0
AppendsTold IsTold old new = (text : Text) × IsTold text × Appends old new (text ++ 10 ∷ [])

-- by a front of one
abbrev pub AppendsFrontOfTold : (Text → Type 0) → Option Text → Option Text → Type 0
AppendsFrontOfTold IsTold old new =
    (text : Text) × IsTold text × AppendsFront old new (text ++ 10 ∷ [])
