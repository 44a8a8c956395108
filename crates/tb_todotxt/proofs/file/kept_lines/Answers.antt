use Rattle.std.proofs.Common.{rules, tests, not}
use Rattle.std.proofs.lemmas.Iterator.Consumers.{map_from_collect, YieldsList-at, YieldsList-from_filter}
use Rattle.std.proofs.lemmas.Iterator.Splits.{YieldsList-from_lines}
use Rattle.tb_todotxt.specs.Line.{is_blank}
use Rattle.tb_todotxt.proofs.file.kept_lines.Goals as goal

pub returns : goal.returns
returns c =
    map_from_collect _ c.collect.ensures.ran
    (YieldsList-from_filter _ (λ line. not (is_blank line))
    (YieldsList-at c.filter.ensures.source (YieldsList-from_lines c.args.text.now c.lines.ensures.rest))
    c.filter.ensures.closure (λ x r q k. search (rules, tests)))
