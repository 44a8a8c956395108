use Rattle.std.proofs.Common.{◌≡◌, false, drop}
use Rattle.tb_my.specs.Said.{said_from}
use Rattle.tb_my.proofs.said.said_of.Given as goal

abbrev pub invariant-loop-word : goal.invariant-loop-word
invariant-loop-word l =
    said_from l.clock l.me l.said l.is_text (drop l.word-index l.words)
    ≡ said_from l.clock l.me l.fn.before false l.words
