use Rattle.std.specs.String.{string_bytes}
use Rattle.tb_task.proofs.Masks.{mark_ascii, pushed}
use Rattle.tb_task.proofs.mask.Mask.push.Goals as goal

pub invariant_of-self : goal.invariant_of-self
invariant_of-self c =
    let written = c.push.ensures.ascii (mark_ascii c.byte.result c.byte.ensures.known) in
    (pushed c.push.result (string_bytes c.self.inside.text) _ _ c.byte.result c.push.ensures.bytes written c.self.invariant c.byte.ensures.known).0

pub returns-clause-ok : goal.returns-clause-ok
returns-clause-ok c =
    let written = c.push.ensures.ascii (mark_ascii c.byte.result c.byte.ensures.known) in
    rw (← c.self.view_is, ← c.byte.ensures.value)
    (pushed c.push.result (string_bytes c.self.inside.text) _ _ c.byte.result c.push.ensures.bytes written c.self.invariant c.byte.ensures.known).1
