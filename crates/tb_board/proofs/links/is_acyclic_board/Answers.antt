use Rattle.std.proofs.lemmas.Result.{IfOk-weaker}
use Rattle.tb_board.specs.Links.{links}
use Rattle.tb_board.proofs.Linking.{acyclic_answer}
use Rattle.tb_board.proofs.links.is_acyclic_board.Goals as goal

pub returns : goal.returns
returns c =
    IfOk-weaker c.acyclic-2.result _ _ (λ answer exact. acyclic_answer (links c.args.board.now) answer exact)
    (rw c.in_ok-links_of.ensures at c.acyclic-2.ensures)
