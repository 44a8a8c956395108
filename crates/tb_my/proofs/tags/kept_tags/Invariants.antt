use Rattle.std.proofs.Common.{◌≡◌, ◌++◌, drop}
use Rattle.tb_my.specs.Tags.{kept_tags}
use Rattle.tb_my.proofs.tags.kept_tags.Given as goal

abbrev pub invariant-loop-tag : goal.invariant-loop-tag
invariant-loop-tag l = l.kept ++ kept_tags (drop l.tag-index l.tags) l.taken ≡ kept_tags l.tags l.taken
