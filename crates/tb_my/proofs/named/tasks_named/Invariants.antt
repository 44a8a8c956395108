use Rattle.std.proofs.Common.{◌≡◌, drop}
use Rattle.tb_my.specs.Named.{tasks_named}
use Rattle.tb_my.proofs.named.tasks_named.Given as goal

abbrev pub invariant-loop-word : goal.invariant-loop-word
invariant-loop-word l =
    tasks_named l.tasks l.is_further l.named (drop l.word-index l.words)
    ≡ tasks_named l.tasks l.is_further l.fn.before l.words
