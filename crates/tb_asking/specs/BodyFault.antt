-- Why a body can't be taken, and what a sender is told of it.
use Rattle.std.specs.Prelude.{◌≡◌, ℕ, List, codes, Result, Err}
use Rattle.serde_json.specs.Data.{Data, number, unsigned, string, object, member, no_members}
use Rattle.serde_json.specs.Written.{compact_text}
use Rattle.tb_values.specs.Outcome.{Gives}
use Rattle.tb_asking.specs.declared.body_fault.BadBody.{BadBody}
use Rattle.tb_asking.specs.declared.body_fault.BadBody.TheVariants.{Whole, Field, Item}
use Rattle.tb_asking.specs.declared.body_fault.BodyFault.{BodyFault}
use Rattle.tb_asking.specs.declared.body_fault.BodyFault.TheVariants.{Refused, Memory}

-- the fault is the one that is expected, unless memory ran out
abbrev pub Fails : {X : Type 0} → BodyFault → Result X BadBody → Type 0
Fails (Refused fault) expected = expected ≡ Err fault
Fails Memory expected = Unit {0}

-- what was read is what is expected, unless memory ran out
abbrev pub Reads : {X : Type 0} → Result X BodyFault → Result X BadBody → Type 0
Reads read expected = Gives Fails read expected

-- a task of an import is bad
abbrev pub item_json : ℕ → List ℕ → Data
item_json at field = object
    (member (codes "at") (number (unsigned at))
    (member (codes "field") (string field)
    (member (codes "name") (string (codes "BadBody")) no_members)))

-- what a sender is told, as JSON
abbrev pub json_of : BadBody → Data
json_of Whole = object (member (codes "name") (string (codes "BadBody")) no_members)
json_of (Field field) =
    object (member (codes "field") (string field)
    (member (codes "name") (string (codes "BadBody")) no_members))
json_of (Item at field) = item_json at field

-- the same as compact text
abbrev pub text_of : BadBody → List ℕ
text_of fault = compact_text (json_of fault)
