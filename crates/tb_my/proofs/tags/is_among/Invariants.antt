use Rattle.std.proofs.Common.{◌≡◌, drop}
use Rattle.tb_my.specs.Tags.{is_among}
use Rattle.tb_my.proofs.tags.is_among.Given as goal

abbrev pub invariant-loop-other : goal.invariant-loop-other
invariant-loop-other l = is_among l.tag (drop l.other-index l.tags) ≡ is_among l.tag l.tags
