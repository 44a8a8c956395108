use Rattle.std.proofs.Common.{◌≡◌, Err, refl, true}
use Rattle.tb_files.specs.Faults.{fault_of_script}
use Rattle.tb_program.specs.declared.fault.Fault.{Fault}
use Rattle.tb_program.specs.declared.fault.Fault.TheVariants.{ReadFailed}
use Rattle.tb_script.specs.Fault.{is_unread}
use Rattle.tb_script.specs.declared.fault.LinesFault.{LinesFault}
use Rattle.tb_script.specs.declared.fault.LinesFault.TheVariants as lines
use Rattle.taskboard.proofs.run_script.Goals as goal

-- ReadFailed is told of a read alone
of_read : (told : Fault) (fault : LinesFault) → told ≡ fault_of_script fault → told ≡ ReadFailed → is_unread {T = Unit {0}} (Err fault) ≡ true
of_read told lines.ReadFailed is e = refl
of_read told lines.WriteFailed is e = absurd (cc)
of_read told lines.Memory is e = absurd (cc)
of_read told lines.Store is e = absurd (cc)

pub returns-in-Err-clause-unread : goal.returns-in-Err-clause-unread
returns-in-Err-clause-unread g c e = c.in-Err.ensures.unread (of_read c.fault_of_script.result c.in-Err.fault c.fault_of_script.ensures.value e)
