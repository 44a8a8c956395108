-- What a reader of words returned, beside what its definition gives.
use Rattle.std.specs.Prelude.{◌≡◌, Result, Ok, Err, Option, Some, None}
use Rattle.tb_values.specs.Outcome.{Gives}
use Rattle.tb_command_line.specs.declared.order.WordsFault.{WordsFault}
use Rattle.tb_command_line.specs.declared.order.WordsFault.TheVariants.{Bad, Memory, NoKey}

-- the fault is the one that is expected, unless memory ran out
abbrev pub Fails : {X : Type 0} → WordsFault → Result X WordsFault → Type 0
Fails Bad expected = expected ≡ Err Bad
Fails NoKey expected = expected ≡ Err NoKey
Fails Memory expected = Unit {0}

-- what was read is what is expected, unless memory ran out
abbrev pub Reads : {X : Type 0} → Result X WordsFault → Result X WordsFault → Type 0
Reads read expected = Gives Fails read expected

-- what was read, where it has the form
abbrev pub or_bad : {A : Type 0} → Option A → Result A WordsFault
or_bad (Some x) = Ok x
or_bad None = Err Bad

-- the key that is kept elsewhere, where one is
abbrev pub or_no_key : {A : Type 0} → Option A → Result A WordsFault
or_no_key (Some x) = Ok x
or_no_key None = Err NoKey
