use Rattle.std.proofs.Common.{◌≡◌, drop}
use Rattle.tb_my.specs.Query.{query_of, with_words}
use Rattle.tb_my.proofs.query.query_of.Given as goal

abbrev pub invariant-loop-word : goal.invariant-loop-word
invariant-loop-word l =
    with_words l.clock l.me l.query l.next (drop l.word-index l.words) ≡ query_of l.clock l.me l.fn.listing l.words
