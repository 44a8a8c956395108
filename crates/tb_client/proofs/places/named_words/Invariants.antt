use Rattle.std.proofs.Common.{◌≡◌, drop}
use Rattle.tb_client.specs.Places.{with_named}
use Rattle.tb_client.proofs.places.named_words.Given as goal

abbrev pub invariant-loop-argument : goal.invariant-loop-argument
invariant-loop-argument l =
    with_named l.tasks l.named l.left (drop l.argument-index l.arguments)
    ≡ with_named l.tasks l.initial.named l.initial.left l.arguments
