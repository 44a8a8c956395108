use Rattle.std.proofs.Common.{◌≡◌, ◌++◌, drop}
use Rattle.tb_my.specs.Tags.{tags_after}
use Rattle.tb_my.proofs.tags.tags_after.Given as goal

abbrev pub invariant-loop-tag : goal.invariant-loop-tag
invariant-loop-tag l = l.after ++ drop l.tag-index l.added ≡ tags_after l.tags l.added l.taken
