-- Which faults come of what an order does.
use Rattle.std.specs.Prelude.{Bool, true, false}
use Rattle.tb_program.specs.declared.fault.Fault.{Fault}
use Rattle.tb_program.specs.declared.fault.Fault.TheVariants.{Memory, NotEmpty, NotOurs, ReadFailed, Store, WriteFailed, WrongVersion}

-- of a script
abbrev pub is_of_scripts : Fault → Bool
is_of_scripts ReadFailed = true
is_of_scripts WriteFailed = true
is_of_scripts Memory = true
is_of_scripts Store = true
is_of_scripts _ = false

-- of a file
abbrev pub is_of_files : Fault → Bool
is_of_files Store = true
is_of_files Memory = true
is_of_files _ = false

-- of making its tables
abbrev pub is_of_making : Fault → Bool
is_of_making NotEmpty = true
is_of_making fault = is_of_files fault

-- of opening it with its tables
abbrev pub is_of_opening : Fault → Bool
is_of_opening NotOurs = true
is_of_opening WrongVersion = true
is_of_opening fault = is_of_files fault

-- of printing a text that is made first
abbrev pub is_of_printing : Fault → Bool
is_of_printing WriteFailed = true
is_of_printing Memory = true
is_of_printing _ = false
