use Rattle.std.proofs.Common.{◌≡◌, [], map, drop}
use Rattle.httparse.specs.Spans.{header_bytes}
use Rattle.tb_client.specs.Answer.{with_named}
use Rattle.tb_client.proofs.answer.values_named.Given as goal

abbrev pub invariant-loop-span : goal.invariant-loop-span
invariant-loop-span l =
    with_named (map (λ value. value.now) l.values.items) l.name (map (header_bytes l.bytes) (drop l.span-index l.spans))
    ≡ with_named [] l.name (map (header_bytes l.bytes) l.spans)
