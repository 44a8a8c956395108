-- The faults of a script.
use Rattle.std.specs.Prelude.{Bool, true, false, Result, Ok, Err}
use Rattle.tb_calls.specs.declared.fault.KeepFault.{KeepFault}
use Rattle.tb_calls.specs.declared.fault.KeepFault.TheVariants as keep
use Rattle.tb_script.specs.declared.fault.LinesFault.{LinesFault}
use Rattle.tb_script.specs.declared.fault.LinesFault.TheVariants.{ReadFailed, WriteFailed, Memory, Store}

-- a keeper's fault, as one of the script
abbrev pub fault_of : KeepFault → LinesFault
fault_of keep.Memory = Memory
fault_of keep.Store = Store

-- the answer is that the store has failed
abbrev pub is_store : {T : Type 0} → Result T LinesFault → Bool
is_store (Ok x) = false
is_store (Err ReadFailed) = false
is_store (Err WriteFailed) = false
is_store (Err Memory) = false
is_store (Err Store) = true

-- the answer is that a read failed
abbrev pub is_unread : {T : Type 0} → Result T LinesFault → Bool
is_unread (Ok x) = false
is_unread (Err ReadFailed) = true
is_unread (Err WriteFailed) = false
is_unread (Err Memory) = false
is_unread (Err Store) = false

-- the answer is that a write failed
abbrev pub is_unwritten : {T : Type 0} → Result T LinesFault → Bool
is_unwritten (Ok x) = false
is_unwritten (Err ReadFailed) = false
is_unwritten (Err WriteFailed) = true
is_unwritten (Err Memory) = false
is_unwritten (Err Store) = false
