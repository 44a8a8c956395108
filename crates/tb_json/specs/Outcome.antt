-- What a reader answered, beside what its definition gives.
use Rattle.std.specs.Prelude.{◌≡◌, Result, Err}
use Rattle.tb_values.specs.Outcome.{Gives}
use Rattle.tb_json.specs.declared.fault.JsonFault.{JsonFault}
use Rattle.tb_json.specs.declared.fault.JsonFault.TheVariants.{NotObject, BadField, Memory}

-- the definition gives this fault, unless it is memory that ran out
abbrev pub Fails : {X : Type 0} → JsonFault → Result X JsonFault → Type 0
Fails NotObject read = read ≡ Err NotObject
Fails (BadField name) read = read ≡ Err (BadField name)
Fails Memory read = Unit {0}

-- the answer is what the definition gives, unless memory ran out
abbrev pub Reads : {X : Type 0} → Result X JsonFault → Result X JsonFault → Type 0
Reads answer read = Gives Fails answer read
