use Rattle.std.proofs.Common.{◌≡◌, map, drop}
use Rattle.tb_my.specs.Named.{with_parts}
use Rattle.tb_my.proofs.named.with_parts.Given as goal

abbrev pub invariant-loop-part : goal.invariant-loop-part
invariant-loop-part l =
    with_parts l.tasks l.is_further l.named l.word (map (λ part. part.now) (drop l.part-index l.parts))
    ≡ with_parts l.tasks l.is_further l.fn.before l.word (map (λ part. part.now) l.parts)
