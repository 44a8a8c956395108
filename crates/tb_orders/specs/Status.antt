-- The status with which the program ends, and what it tells of a fault.
use Rattle.std.specs.Prelude.{ℕ, List, [], ◌∷◌, ◌++◌, Result, Ok, Err, codes}
use Rattle.tb_orders.specs.declared.ending.Ending.{Ending}
use Rattle.tb_orders.specs.declared.ending.Ending.TheVariants.{Accepted, Refused}
use Rattle.tb_program.specs.declared.fault.Fault.{Fault}
use Rattle.tb_program.specs.Fault.{name_of, status_of}

-- 0 where an order was accepted, 1 where it was refused, and else the fault's status
abbrev pub status_at : Result Ending Fault → ℕ
status_at (Ok Accepted) = 0
status_at (Ok Refused) = 1
status_at (Err fault) = status_of fault

-- `taskboard: NAME` and a line feed
abbrev pub fault_line : Fault → List ℕ
fault_line fault = codes "taskboard: " ++ (name_of fault ++ 10 ∷ [])
