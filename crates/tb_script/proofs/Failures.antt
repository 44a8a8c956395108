-- Whether the store has failed, after a call.
use Rattle.std.proofs.Common.{◌≡◌, Bool, true, false, ◌||◌, Result, Ok, Err, refl, sym, ap, ◌∙◌}
use Rattle.std.specs.Prelude.{IsErrOf}
use Rattle.tb_calls.specs.declared.fault.KeepFault.{KeepFault}
use Rattle.tb_calls.specs.declared.fault.KeepFault.TheVariants.{Memory, Store}
use Rattle.tb_calls.specs.Keep.{is_store as is_store_of_keep}
use Rattle.tb_script.specs.declared.fault.LinesFault.{LinesFault}
use Rattle.tb_script.specs.declared.fault.LinesFault.TheVariants.{Memory as NoMemory, ReadFailed, Store as NoStore, WriteFailed}
use Rattle.tb_script.specs.Fault.{fault_of, is_store, is_unread, is_unwritten}

-- an answered call doesn't change whether the store has failed
pub as_before : {T : Type 0} (x : T) (old new : Bool) → new ≡ false → (old ≡ true → IsErrOf {T = T} {E = KeepFault} (Ok x) Store) → new ≡ old
as_before {T} x true new is closed = let e : ◌≡◌ {A = Result T KeepFault} (Ok x) (Err Store) = closed refl in absurd (cc)
as_before {T} x false new is closed = is

-- a fault other than the store's
pub other_fault : {T : Type 0} (r : Result T LinesFault) (old new : Bool) → is_store r ≡ false → new ≡ old → new ≡ (is_store r || old)
other_fault r old new no_store same = same ∙ ap (λ b. b || old) (sym no_store)

-- a call's fault is told as it is
pub told_on : {T U : Type 0} (fault : KeepFault) (r : Result U LinesFault) (old new : Bool) → r ≡ Err (fault_of fault)
    → new ≡ is_store_of_keep {T = T} (Err fault) → (old ≡ true → IsErrOf {T = T} {E = KeepFault} (Err fault) Store) → new ≡ (is_store r || old)
told_on {T} Memory r true new is failed closed = let e : ◌≡◌ {A = Result T KeepFault} (Err Memory) (Err Store) = closed refl in absurd (cc)
told_on {T} Memory r false new is failed closed = other_fault r false new (ap is_store is) failed
told_on {T} Store r old new is failed closed = failed ∙ ap (λ b. b || old) (sym (ap is_store is))

-- a call's fault isn't one of reading
pub not_read : {U : Type 0} (fault : KeepFault) (r : Result U LinesFault) → r ≡ Err (fault_of fault) → is_unread r ≡ false
not_read Memory r is = ap is_unread is
not_read Store r is = ap is_unread is

-- nor one of writing
pub not_written : {U : Type 0} (fault : KeepFault) (r : Result U LinesFault) → r ≡ Err (fault_of fault) → is_unwritten r ≡ false
not_written Memory r is = ap is_unwritten is
not_written Store r is = ap is_unwritten is

-- a read that had failed before is still told
pub still_heard : {T : Type 0} (r : Result T LinesFault) (old new : Bool) → new ≡ old → new ≡ true → (is_unread r || old) ≡ true
still_heard (Ok x) old new same failed = sym same ∙ failed
still_heard (Err ReadFailed) old new same failed = refl
still_heard (Err WriteFailed) old new same failed = sym same ∙ failed
still_heard (Err NoMemory) old new same failed = sym same ∙ failed
still_heard (Err NoStore) old new same failed = sym same ∙ failed
