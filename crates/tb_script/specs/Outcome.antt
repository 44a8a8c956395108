-- What a reader of lines returned, beside what its definition gives.
use Rattle.std.specs.Prelude.{◌≡◌, Result, Ok, Err, Option, Some, None}
use Rattle.tb_values.specs.Outcome.{Gives}
use Rattle.tb_script.specs.declared.line_fault.LineFault.{LineFault}
use Rattle.tb_script.specs.declared.line_fault.LineFault.TheVariants.{Refused, Memory}
use Rattle.tb_script.specs.declared.line_fault.Unreadable.{Unreadable}
use Rattle.tb_script.specs.declared.line_fault.Unreadable.TheVariants.{BadLine}

-- the fault is the one that is expected, unless memory ran out
abbrev pub Fails : {X : Type 0} → LineFault → Result X Unreadable → Type 0
Fails (Refused fault) expected = expected ≡ Err fault
Fails Memory expected = Unit {0}

-- what was read is what is expected, unless memory ran out
abbrev pub Reads : {X : Type 0} → Result X LineFault → Result X Unreadable → Type 0
Reads read expected = Gives Fails read expected

-- what was read, where it has the form
abbrev pub or_bad_line : {A : Type 0} → Option A → Result A Unreadable
or_bad_line (Some x) = Ok x
or_bad_line None = Err BadLine
