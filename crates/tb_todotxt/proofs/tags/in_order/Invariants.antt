use Rattle.std.proofs.Common.{◌≡◌, [], drop}
use Rattle.tb_values.specs.Texts.{with_texts}
use Rattle.tb_todotxt.proofs.tags.in_order.Given as goal

-- the tags so far, and those to come
abbrev pub invariant-loop-tag : goal.invariant-loop-tag
invariant-loop-tag l = with_texts l.set (drop l.tag-index l.tags) ≡ with_texts [] l.tags
