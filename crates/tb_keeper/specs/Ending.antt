-- How a call of a keeper ends.
use Rattle.std.specs.Prelude.{Result, Ok, Err}
use Rattle.tb_calls.specs.declared.fault.KeepFault.{KeepFault}
use Rattle.tb_calls.specs.declared.fault.KeepFault.TheVariants.{Memory, Store}
use Rattle.tb_sql.specs.declared.store.StoreFault.{StoreFault}
use Rattle.tb_sql.specs.declared.store.StoreFault.TheVariants.{Memory as NoRoom, Store as Failed}

-- a look or a write ended so, as the call is told
abbrev pub ended : {T : Type 0} → Result T StoreFault → Result T KeepFault
ended (Ok x) = Ok x
ended (Err NoRoom) = Err Memory
ended (Err Failed) = Err Store
