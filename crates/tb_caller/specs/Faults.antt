-- Which faults come of words of `my`.
use Rattle.std.specs.Prelude.{Bool}
use Rattle.tb_mine.specs.Faults.{is_of_asking}
use Rattle.tb_program.specs.declared.fault.Fault.{Fault}

abbrev pub is_of_mine : Fault → Bool
is_of_mine fault = is_of_asking fault
