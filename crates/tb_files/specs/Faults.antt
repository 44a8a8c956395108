-- Which faults come of an order over a file, and what the faults of the crates below are told as.
use Rattle.std.specs.Prelude.{Bool, true}
use Rattle.tb_keeper.specs.declared.creating.CreateFault.{CreateFault}
use Rattle.tb_keeper.specs.declared.creating.CreateFault.TheVariants as making
use Rattle.tb_orders.specs.Faults.{is_of_opening}
use Rattle.tb_orders.specs.Telling.{is_of_answers}
use Rattle.tb_program.specs.declared.fault.Fault.{Fault}
use Rattle.tb_program.specs.declared.fault.Fault.TheVariants.{BadBody, Memory, NoClock, NoKey, NotEmpty, NotOurs, ReadFailed, Store, WriteFailed, WrongVersion}
use Rattle.tb_script.specs.declared.fault.LinesFault.{LinesFault}
use Rattle.tb_script.specs.declared.fault.LinesFault.TheVariants as lines
use Rattle.tb_sql.specs.declared.opening.OpenFault.{OpenFault}
use Rattle.tb_sql.specs.declared.opening.OpenFault.TheVariants as opening

-- ---- which faults these are

-- of comparing what it stores
abbrev pub is_of_checking : Fault → Bool
is_of_checking WriteFailed = true
is_of_checking fault = is_of_opening fault

-- of a view of it
abbrev pub is_of_views : Fault → Bool
is_of_views NoClock = true
is_of_views fault = is_of_checking fault

-- of what is done for a view once a session has begun
abbrev pub is_of_showing : Fault → Bool
is_of_showing NoClock = true
is_of_showing fault = is_of_answers fault

-- of a key that is given in it
abbrev pub is_of_keys : Fault → Bool
is_of_keys ReadFailed = true
is_of_keys NoKey = true
is_of_keys fault = is_of_views fault

-- of an import into it
abbrev pub is_of_imports : Fault → Bool
is_of_imports ReadFailed = true
is_of_imports BadBody = true
is_of_imports fault = is_of_views fault

-- ---- what a fault is told as

abbrev pub fault_of_script : LinesFault → Fault
fault_of_script lines.ReadFailed = ReadFailed
fault_of_script lines.WriteFailed = WriteFailed
fault_of_script lines.Memory = Memory
fault_of_script lines.Store = Store

abbrev pub fault_of_opening : OpenFault → Fault
fault_of_opening opening.NotOurs = NotOurs
fault_of_opening opening.WrongVersion = WrongVersion
fault_of_opening opening.Store = Store
fault_of_opening opening.Memory = Memory

abbrev pub fault_of_making : CreateFault → Fault
fault_of_making making.NotEmpty = NotEmpty
fault_of_making making.Store = Store
fault_of_making making.Memory = Memory
