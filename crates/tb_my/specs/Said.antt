-- What the words of `add` and `change` say of a task.
use Rattle.std.specs.Prelude.{Bool, true, false, List, [], ◌∷◌, ◌++◌, codes, Option, Some, None, Result, Ok, if◌then◌else◌}
use Rattle.std.specs.Str.{bytes_eq}
use Rattle.tb_my.specs.Days.{Text}
use Rattle.tb_my.specs.Part.{part_of}
use Rattle.tb_my.specs.declared.fault.MyFault.{MyFault}
use Rattle.tb_my.specs.declared.part.Part.{Part}
use Rattle.tb_my.specs.declared.part.Part.TheVariants.{Set, Tags, Untag, Needs, Json, Plain}
use Rattle.tb_my.specs.declared.said.Said.{Said}
use Rattle.tb_my.specs.declared.zone.Clock.{Clock}
use Rattle.tb_todotxt.specs.Words.{joined}
use Rattle.tb_values.specs.Outcome.{◌>>=◌}

abbrev pub nothing_said : Said
nothing_said = record {
  settings = [];
  tags = [];
  untagged = [];
  needs = [];
  is_json = false;
  description = [];
}

abbrev pub with_plain : Said → Text → Said
with_plain said word = record said { description = joined said.description word }

abbrev pub with_part : Said → Part → Text → Said
with_part said (Set setting) word = record said { settings = said.settings ++ setting ∷ [] }
with_part said (Tags tags) word = record said { tags = said.tags ++ tags }
with_part said (Untag tag) word = record said { untagged = said.untagged ++ tag ∷ [] }
with_part said (Needs tasks) word = record said { needs = said.needs ++ tasks ∷ [] }
with_part said Json word = record said { is_json = true }
with_part said Plain word = with_plain said word

-- what was said, and what further words say, up to the first that is wrong; after `--` they are all of the description
-- Rule: what begins with two hyphens is an option, and after `--` nothing is. Tried by my.sh.
unfoldable pub said_from : Clock → Text → Said → Bool → List Text → Result Said MyFault
said_from clock me said is_text [] = Ok said
said_from clock me said true (word ∷ words) =
    said_from clock me (with_plain said word) true words
said_from clock me said false (word ∷ words) =
    if bytes_eq word (codes "--") then said_from clock me said true words
    else (do
      part ← part_of clock me word
      said_from clock me (with_part said part word) false words)

-- ---- the mark of a priority at the front, as todo.txt has it

abbrev pub letter_priority : Text → Option Text
letter_priority word =
    if bytes_eq word (codes "(A)") then Some (codes "H")
    else if bytes_eq word (codes "(B)") then Some (codes "M")
    else if bytes_eq word (codes "(C)") then Some (codes "L")
    else None

abbrev pub with_priority : Said → Text → Said
with_priority said priority = record said {
  settings = said.settings ++ (record { name = codes "priority"; value = Some priority }) ∷ [];
}

abbrev pub said_by : Option Text → Said
said_by None = nothing_said
said_by (Some priority) = with_priority nothing_said priority

abbrev pub marked_said : List Text → Said
marked_said [] = nothing_said
marked_said (first ∷ words) = said_by (letter_priority first)

abbrev pub after_mark : Option Text → Text → List Text → List Text
after_mark None first words = first ∷ words
after_mark (Some priority) first words = words

abbrev pub unmarked : List Text → List Text
unmarked [] = []
unmarked (first ∷ words) = after_mark (letter_priority first) first words
