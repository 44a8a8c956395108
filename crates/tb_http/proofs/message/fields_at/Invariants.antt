use Rattle.std.proofs.Common.{◌≡◌, map, take}
use Rattle.httparse.specs.Spans.{header_bytes}
use Rattle.tb_http.specs.Message.{field_from}
use Rattle.tb_http.proofs.message.fields_at.Given as goal

abbrev pub invariant-loop-span : goal.invariant-loop-span
invariant-loop-span l = l.fields.items ≡ map field_from (map (header_bytes l.bytes) (take l.span-index l.spans))
