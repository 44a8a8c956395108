use Rattle.std.proofs.Common.{◌+◌, ◌||◌, ◌∙◌, drop, ap, sym, arith}
use Rattle.tb_finding.specs.Tests.{contains}
use Rattle.tb_finding.proofs.Texts.{contains_at_end, found_or_later}
use Rattle.tb_finding.proofs.tests.contains.Goals as goal

pub returns-then-begins : goal.returns-then-begins
returns-then-begins c =
    let part = c.args.part.now in
    let text = c.args.text.now in
    let i = c.loop-start.start in
    sym (ap (λ b. b || contains part (drop (i + 1) text)) c.if-begins.true)
    ∙ found_or_later part text i c.begins.result (omega arith) c.begins.ensures
    ∙ c.loop-start.invariant

pub loop-start-preserved : goal.loop-start-preserved
loop-start-preserved c =
    let part = c.args.part.now in
    let text = c.args.text.now in
    let i = c.loop-start.start in
    sym (ap (λ b. b || contains part (drop (i + 1) text)) c.if-begins.false)
    ∙ found_or_later part text i c.begins.result (omega arith) c.begins.ensures
    ∙ c.loop-start.invariant

pub returns : goal.returns
returns c =
    c.is_empty.ensures
    ∙ sym (contains_at_end c.args.part.now c.args.text.now c.loop-start.start (omega arith))
    ∙ c.loop-start.invariant
