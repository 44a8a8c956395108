-- Which faults the asking may tell.
use Rattle.std.specs.Prelude.{Bool, true, false}
use Rattle.tb_program.specs.declared.fault.Fault.{Fault}
use Rattle.tb_program.specs.declared.fault.Fault.TheVariants.{NoListen, NoPage, NotEmpty, NotOurs, WrongVersion}

-- none of serving, and none of a file of boards but Store
abbrev pub is_of_asking : Fault → Bool
is_of_asking NoListen = false
is_of_asking NoPage = false
is_of_asking NotEmpty = false
is_of_asking NotOurs = false
is_of_asking WrongVersion = false
is_of_asking fault = true
