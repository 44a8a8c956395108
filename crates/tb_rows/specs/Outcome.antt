-- What a reader answered, beside what its definition gives.
use Rattle.std.specs.Prelude.{◌≡◌, Result, Err, Option, Some, None, Ok}
use Rattle.tb_values.specs.Outcome.{Gives}
use Rattle.tb_rows.specs.declared.fault.ReopenFault.{ReopenFault}
use Rattle.tb_rows.specs.declared.fault.ReopenFault.TheVariants.{NotRows, Memory}

-- the definition gives this fault, unless it is memory that ran out
abbrev pub Fails : {X : Type 0} → ReopenFault → Result X ReopenFault → Type 0
Fails NotRows read = read ≡ Err NotRows
Fails Memory read = Unit {0}

-- the answer is what the definition gives, unless memory ran out
abbrev pub Reads : {X : Type 0} → Result X ReopenFault → Result X ReopenFault → Type 0
Reads answer read = Gives Fails answer read

-- a value of a world, or what no world has
abbrev pub readable : {X : Type 0} → Option X → Result X ReopenFault
readable None = Err NotRows
readable (Some x) = Ok x
