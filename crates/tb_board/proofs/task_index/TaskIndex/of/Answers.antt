use Rattle.std.proofs.Common.{sym, ◌∙◌, arith}
use Rattle.tb_board.proofs.Indexed.{least_found}
use Rattle.tb_board.proofs.task_index.TaskIndex.of.Goals as goal

pub returns : goal.returns
returns c = record {
  places = c.in_ok-places.ensures;
  least = least_found _ c.in_ok-places.places c.args.board 1 c.in-Some.least_free c.in_ok-places.ensures (λ k from below. absurd (omega (arith, from, below))) (omega arith) c.in-Some.ensures.from c.in-Some.ensures.taken c.in-Some.ensures.vacant;
  waits = λ m none. sym (c.of-2.ensures m) ∙ none;
  templates = rw c.in-Some-2.is at c.in_ok-templates.ensures;
}
