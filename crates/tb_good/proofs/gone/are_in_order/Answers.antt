use Rattle.std.proofs.Common.{◌≡◌, ◌∙◌, is_lt, rules}
use Rattle.std.proofs.lemmas.Fn.{always_returns_same}
use Rattle.tb_board.specs.declared.gone.Gone.{Gone}
use Rattle.tb_board.specs.Tasks.{ids}
use Rattle.tb_board.specs.Instances.{by_template}
use Rattle.tb_board.proofs.GoneOrder.{by_template_total}
use Rattle.tb_good.specs.Parts.{comes_before}
use Rattle.tb_good.proofs.Ordering.{sorted_tells}
use Rattle.tb_good.proofs.Places.{order_is}
use Rattle.tb_good.proofs.gone.are_in_order.Goals as goal

pub returns : goal.returns
returns c =
    let b = c.args.board.now in
    let all = ids b.tasks in
    sorted_tells (by_template_total all) b.gone c.is_sorted_by.result
    (rw c.as_slice.ensures at c.is_sorted_by.ensures.cases (λ (g h : Gone). is_lt (by_template all g h))
    (always_returns_same _ _ _ (λ a r h k.
    let is : r ≡ comes_before c.args.places.now c.len-end.result a.0.now a.1.0.now = search rules in
    (is ∙ order_is b c.args.places.now c.len-end.result a.0.now a.1.0.now c.requires.places c.len-end.ensures, search rules))))
