use Rattle.std.proofs.Common.{◌≡◌, ◌+◌, true≢false, sym, arith}
use Rattle.tb_keeper.proofs.SoundHistories.{numbered_at, numbered_more}
use Rattle.tb_keeper.proofs.sound_histories.are_numbered_after.Goals as goal

pub returns-then-from-next : goal.returns-then-from-next
returns-then-from-next c = (
  λ so. absurd (true≢false (sym so)),
  λ numbered.
      let at : c.row-item.result.number ≡ c.args.before + 1 + c.loop-row.row-index = numbered_at c.args.rows.now c.loop-row.row-index c.row-item.result c.loop-row-test.true c.row-item.is (c.args.before + 1) numbered in
      absurd (omega (arith, at, c.loop-row.invariant.next, c.from.ensures, c.if-from-next.true)),
)

pub loop-row-preserved : goal.loop-row-preserved
loop-row-preserved c =
    let at : c.row-item.result.number ≡ c.args.before + 1 + c.loop-row.row-index = omega (arith, c.loop-row.invariant.next, c.from.ensures, c.if-from-next.false) in
    record {
      next = omega (arith, at, c.from-next-in-loop-row.ensures);
      numbered = numbered_more c.args.rows.now c.loop-row.row-index c.row-item.result c.loop-row-test.true c.row-item.is (c.args.before + 1) c.loop-row.invariant.numbered at;
    }
