use Rattle.std.proofs.Common.{◌∙◌, refl, subst, take_all}
use Rattle.std.specs.List.{All}
use Rattle.std.proofs.lemmas.List.Elements.{All-more, recursion_from_All}
use Rattle.tb_board.specs.Good.{IsGood}
use Rattle.tb_good.proofs.worlds.are_good.Goals as goal

pub loop-board-preserved : goal.loop-board-preserved
loop-board-preserved c =
    All-more IsGood c.args.boards.now c.loop-board.board-index c.board-item.result c.loop-board-test.true c.loop-board.invariant
    (subst IsGood (c.get.ensures ∙ c.board-item.is) (c.in_ok-is_good_board.ensures.0 c.if-not-branch.false))

pub returns : goal.returns
returns c = (λ yes. recursion_from_All IsGood c.args.boards.now (subst (All IsGood) (take_all c.loop-board.board-index c.args.boards.now c.loop-board-test.false) c.loop-board.invariant), λ good. refl)
