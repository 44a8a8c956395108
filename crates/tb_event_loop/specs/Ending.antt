-- How the loop ended.
use Rattle.std.specs.Prelude.{Bool, true, false, Result, Ok, Err}
use Rattle.tb_event_loop.specs.declared.fault.LoopFault.{LoopFault}
use Rattle.tb_event_loop.specs.declared.fault.LoopFault.TheVariants.{Memory, Moved, Sockets, Store}

-- the store failed
abbrev pub has_stopped : {T : Type 0} → Result T LoopFault → Bool
has_stopped (Ok x) = false
has_stopped (Err Memory) = false
has_stopped (Err Moved) = false
has_stopped (Err Sockets) = false
has_stopped (Err Store) = true
