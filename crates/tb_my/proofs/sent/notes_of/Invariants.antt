use Rattle.std.proofs.Common.{◌≡◌, ◌++◌, drop}
use Rattle.tb_my.specs.Sent.{notes_of}
use Rattle.tb_my.proofs.sent.notes_of.Given as goal

abbrev pub invariant-loop-task : goal.invariant-loop-task
invariant-loop-task l =
    l.all ++ notes_of l.name l.verb l.board (drop l.task-index l.named) l.note ≡ notes_of l.name l.verb l.board l.named l.note
