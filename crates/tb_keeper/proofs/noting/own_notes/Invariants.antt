use Rattle.std.proofs.Common.{◌≡◌, filter, take}
use Rattle.tb_keeper.specs.Noting.{is_of}
use Rattle.tb_keeper.proofs.noting.own_notes.Given as goal

-- those behind are there
abbrev pub invariant-loop-note : goal.invariant-loop-note
invariant-loop-note l = l.own ≡ filter (is_of l.id) (take l.note-index l.notes)
