use Rattle.std.proofs.Common.{arith, sym, ◌∙◌, ◌+◌}
use Rattle.tb_recur.proofs.Needs.{need_more, need_no_more}
use Rattle.tb_sweep.proofs.growing.wanted_from.Goals as goal

pub loop-number-preserved : goal.loop-number-preserved
loop-number-preserved c =
    let beyond = need_more c.args.plan.now c.args.ahead c.args.at (c.args.first + c.loop-number.number) c.requires.step (sym (rw c.number.ensures.value at c.wants.ensures) ∙ c.if-wants.true) in
    record { most = omega arith; wanted = omega (arith, beyond) }

pub returns-else-wants : goal.returns-else-wants
returns-else-wants c =
    let no_more = need_no_more c.args.plan.now c.args.ahead c.args.at (c.args.first + c.loop-number.number) c.requires.step (sym (rw c.number.ensures.value at c.wants.ensures) ∙ c.if-wants.false) in
    omega (arith, no_more, c.loop-number.invariant.wanted, c.loop-number.invariant.most)
