use Rattle.std.proofs.Common.{◌≡◌, ◌++◌, drop, string_bytes}
use Rattle.tb_finding.specs.Showing.{note_lines}
use Rattle.tb_finding.proofs.showing.push_notes.Given as goal

-- the lines so far and those that are left are all
abbrev pub invariant-loop-note : goal.invariant-loop-note
invariant-loop-note l =
    string_bytes l.text ++ note_lines l.clock (drop l.note-index l.notes) ≡ string_bytes l.fn.text ++ note_lines l.clock l.notes
