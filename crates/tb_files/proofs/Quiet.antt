-- Faults of imports that print nothing.
use Rattle.std.proofs.Common.{◌∙◌, ◌≡◌, ap, false, refl, sym, true, true≢false}
use Rattle.std.specs.Prelude.{◌≢◌}
use Rattle.tb_files.specs.Failed.{may_print, may_print_parts}
use Rattle.tb_orders.specs.Doing.{is_unread}
use Rattle.tb_orders.specs.Telling.{is_of_inputs}
use Rattle.tb_program.specs.declared.fault.Fault.{Fault}
use Rattle.tb_program.specs.declared.fault.Fault.TheVariants as fault

-- what prints nothing isn't a failed write
pub unwritten : (told : Fault) → may_print told ≡ false → told ≢ fault.WriteFailed
unwritten told quiet is = true≢false (sym (ap may_print is) ∙ quiet)

-- what prints nothing of an import in parts is that its input wasn't read
pub unread_of : (told : Fault) → is_of_inputs told ≡ true → may_print_parts told ≡ false → is_unread told ≡ true
unread_of fault.Bad one quiet = absurd (true≢false (sym one))
unread_of fault.BadBody one quiet = absurd (true≢false quiet)
unread_of fault.Memory one quiet = absurd (true≢false quiet)
unread_of fault.NoAnswer one quiet = absurd (true≢false (sym one))
unread_of fault.NoClock one quiet = refl
unread_of fault.NoKey one quiet = absurd (true≢false (sym one))
unread_of fault.NoListen one quiet = absurd (true≢false (sym one))
unread_of fault.NoPage one quiet = absurd (true≢false (sym one))
unread_of fault.NotEmpty one quiet = absurd (true≢false (sym one))
unread_of fault.NotOurs one quiet = absurd (true≢false (sym one))
unread_of fault.ReadFailed one quiet = refl
unread_of fault.Store one quiet = absurd (true≢false quiet)
unread_of fault.WriteFailed one quiet = absurd (true≢false quiet)
unread_of fault.WrongVersion one quiet = absurd (true≢false (sym one))
