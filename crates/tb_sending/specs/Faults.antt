-- Which faults an order of sending may tell.
use Rattle.std.specs.Prelude.{Bool, true, false}
use Rattle.tb_program.specs.declared.fault.Fault.{Fault}
use Rattle.tb_program.specs.declared.fault.Fault.TheVariants.{Bad, BadBody, Memory, NoAnswer, NoKey, ReadFailed, Store, WriteFailed}

abbrev pub is_of_sending : Fault → Bool
is_of_sending Bad = true
is_of_sending BadBody = true
is_of_sending Memory = true
is_of_sending NoAnswer = true
is_of_sending NoKey = true
is_of_sending ReadFailed = true
is_of_sending Store = true
is_of_sending WriteFailed = true
is_of_sending _ = false
