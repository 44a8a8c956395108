-- When a failure of the store is told.
use Rattle.std.proofs.Common.{◌≡◌, Bool, true, false, if◌then◌else◌, Some, refl}
use Rattle.tb_calls.specs.declared.fault.KeepFault.TheVariants as keep
use Rattle.tb_http.specs.declared.fault.WireFault.{WireFault}
use Rattle.tb_http.specs.declared.fault.WireFault.TheVariants as wire
use Rattle.tb_serve.specs.declared.serving.ServeFault.TheVariants as fault
use Rattle.tb_serve.specs.declared.serving.MessageOutcome.{MessageOutcome}
use Rattle.tb_serve.specs.declared.serving.MessageOutcome.TheVariants.{Replied, Failed, Unread}
use Rattle.tb_serve.specs.Serving.{turn_fault, unread_fault}

-- what can't be read is no failure of the store
unread_apart : (f : WireFault) → unread_fault f ≡ Some fault.Store → ⊥
unread_apart wire.ReadFailed is = cc
unread_apart wire.Memory is = cc
unread_apart wire.Ended is = cc
unread_apart wire.Torn is = cc
unread_apart wire.BadHead is = cc
unread_apart wire.HeadTooLong is = cc
unread_apart wire.Coding is = cc
unread_apart wire.NoLength is = cc
unread_apart wire.BodyTooLong is = cc
unread_apart wire.NoRoute is = cc
unread_apart wire.NoMethod is = cc
unread_apart wire.NoId is = cc
unread_apart wire.BadBody is = cc
unread_apart wire.NoClock is = cc

-- it is told of a call or a view that failed so
pub store_failed : (turn : MessageOutcome) (is_whole : Bool) → (if is_whole then turn_fault turn else Some fault.WriteFailed) ≡ Some fault.Store → turn ≡ Failed keep.Store
store_failed turn false is = absurd (cc)
store_failed Replied true is = absurd (cc)
store_failed (Failed keep.Memory) true is = absurd (cc)
store_failed (Failed keep.Store) true is = refl
store_failed (Unread fault) true is = absurd (unread_apart fault is)
