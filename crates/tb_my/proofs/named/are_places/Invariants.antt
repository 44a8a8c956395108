use Rattle.std.proofs.Common.{◌≡◌, map, drop}
use Rattle.tb_my.specs.Named.{are_places}
use Rattle.tb_my.proofs.named.are_places.Given as goal

abbrev pub invariant-loop-part : goal.invariant-loop-part
invariant-loop-part l =
    are_places (map (λ part. part.now) (drop l.part-index l.parts)) ≡ are_places (map (λ part. part.now) l.parts)
