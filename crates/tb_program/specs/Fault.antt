-- The faults as they are told.
use Rattle.std.specs.Prelude.{ℕ, Bool, true, false, List, codes}
use Rattle.tb_program.specs.declared.fault.Fault.{Fault}
use Rattle.tb_program.specs.declared.fault.Fault.TheVariants.{Bad, BadBody, Memory, NoAnswer, NoClock, NoKey, NoListen, NoPage, NotEmpty, NotOurs, ReadFailed, Store, WriteFailed, WrongVersion}

abbrev pub name_of : Fault → List ℕ
name_of Bad = codes "Bad"
name_of BadBody = codes "BadBody"
name_of Memory = codes "Memory"
name_of NoAnswer = codes "NoAnswer"
name_of NoClock = codes "NoClock"
name_of NoKey = codes "NoKey"
name_of NoListen = codes "NoListen"
name_of NoPage = codes "NoPage"
name_of NotEmpty = codes "NotEmpty"
name_of NotOurs = codes "NotOurs"
name_of ReadFailed = codes "ReadFailed"
name_of Store = codes "Store"
name_of WriteFailed = codes "WriteFailed"
name_of WrongVersion = codes "WrongVersion"

-- 2 for bad words, else 1
-- Rule: the exit status of a fault is 2 for bad words, else 1. Tried by outcomes.
abbrev pub status_of : Fault → ℕ
status_of Bad = 2
status_of _ = 1

-- of reading a text
abbrev pub is_of_reading : Fault → Bool
is_of_reading BadBody = true
is_of_reading Memory = true
is_of_reading ReadFailed = true
is_of_reading _ = false
