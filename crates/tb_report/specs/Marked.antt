-- Which tasks wait for others, by lists of marks.
use Rattle.std.specs.Prelude.{Bool, List}
use Rattle.tb_report.specs.Lists.{Waits}

abbrev pub waits_in : List Bool → List Bool → Waits
waits_in blocked blocking = record { blocked = blocked; blocking = blocking }
