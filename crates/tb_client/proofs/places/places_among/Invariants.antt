use Rattle.std.proofs.Common.{◌≡◌, [], drop}
use Rattle.tb_client.specs.Places.{with_arguments}
use Rattle.tb_client.proofs.places.places_among.Given as goal

abbrev pub invariant-loop-argument : goal.invariant-loop-argument
invariant-loop-argument l =
    with_arguments l.places.items l.left (drop l.argument-index l.arguments)
    ≡ with_arguments [] l.count l.arguments
