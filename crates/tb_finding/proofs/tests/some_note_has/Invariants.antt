use Rattle.std.proofs.Common.{◌≡◌, drop}
use Rattle.tb_finding.specs.Tests.{some_note_has}
use Rattle.tb_finding.proofs.tests.some_note_has.Given as goal

abbrev pub invariant-loop-note : goal.invariant-loop-note
invariant-loop-note l = some_note_has l.part (drop l.note-index l.notes) ≡ some_note_has l.part l.notes
