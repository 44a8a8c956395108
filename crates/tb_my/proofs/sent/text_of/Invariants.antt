use Rattle.std.proofs.Common.{◌≡◌, [], false, drop}
use Rattle.tb_my.specs.Sent.{text_from}
use Rattle.tb_my.proofs.sent.text_of.Given as goal

abbrev pub invariant-loop-word : goal.invariant-loop-word
invariant-loop-word l = text_from l.text l.is_text (drop l.word-index l.words) ≡ text_from [] false l.words
