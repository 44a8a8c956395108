-- What an exchange makes of its connection.
use Rattle.std.specs.Prelude.{Bool, true, if◌then◌else◌, Result, Ok, Err}
use Rattle.tb_calls.specs.declared.fault.KeepFault.TheVariants as keep
use Rattle.tb_serve.specs.declared.serving.ServeFault.{ServeFault}
use Rattle.tb_serve.specs.declared.serving.ServeFault.TheVariants.{WriteFailed, Store}
use Rattle.tb_serve.specs.declared.serving.MessageOutcome.{MessageOutcome}
use Rattle.tb_serve.specs.declared.serving.MessageOutcome.TheVariants.{Replied, Failed, Unread}

-- whether a connection takes no more behind an exchange, where it closes by its messages or not
abbrev pub takes_no_more : Bool → MessageOutcome → Bool → Bool
takes_no_more is_closing Replied is_whole = if is_whole then is_closing else true
takes_no_more is_closing (Failed fault) is_whole = true
takes_no_more is_closing (Unread fault) is_whole = true

-- why it is served no further
abbrev pub outcome : MessageOutcome → Bool → Result (Unit {0}) ServeFault
outcome Replied is_whole = if is_whole then Ok tt else Err WriteFailed
outcome (Failed keep.Memory) is_whole = if is_whole then Ok tt else Err WriteFailed
outcome (Failed keep.Store) is_whole = Err Store
outcome (Unread fault) is_whole = if is_whole then Ok tt else Err WriteFailed
