use Rattle.std.proofs.Common.{◌∙◌, ap, arith, refl, sym, true≢false}
use Rattle.tb_board.specs.declared.board.Board.{Board}
use Rattle.tb_good.proofs.Numbering.{numbered_at, numbered_from}
use Rattle.tb_good.proofs.worlds.are_numbered.Goals as goal

pub returns-then-get-place : goal.returns-then-get-place
returns-then-get-place c = (
  λ yes. absurd (true≢false (sym yes)),
  λ same.
      let own = ap (λ (b : Board). b.number) (c.get.ensures ∙ c.index-boards-place.is) in
      let here = numbered_at 1 c.args.boards.now same c.loop-place.place c.index-boards-place.result c.loop-place-test.true in
      absurd (omega (arith, own, here, c.if-get-place.true)),
)

pub returns : goal.returns
returns c = (λ yes. numbered_from 1 c.args.boards.now (λ k d within. c.loop-place.invariant k d (omega (arith, within, c.loop-place-test.false))), λ same. refl)
