use Rattle.std.proofs.Common.{◌≡◌, ◌++◌, drop}
use Rattle.tb_my.specs.Changing.{links_from}
use Rattle.tb_my.proofs.changing.push_links.Given as goal

abbrev pub invariant-loop-other : goal.invariant-loop-other
invariant-loop-other l =
    l.all ++ links_from l.board l.task (drop l.other-index l.needed)
    ≡ l.fn.all ++ links_from l.board l.task l.needed
