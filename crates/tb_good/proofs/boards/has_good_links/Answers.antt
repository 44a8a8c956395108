use Rattle.std.proofs.Common.{◌≡◌, ◌↔◌, BTreeMap, Bool, IsTrue, not, ℕ}
use Rattle.std.specs.Bool.{Decides}
use Rattle.std.specs.List.{AllByRecursion, list_all}
use Rattle.std.proofs.lemmas.Bool.Decides.{Decides-at, Decides-like}
use Rattle.std.proofs.lemmas.Result.{IfOk-weaker}
use Rattle.tb_task.specs.declared.task.Task.{Task}
use Rattle.tb_graph.specs.Leads.{is_acyclic}
use Rattle.tb_graph.proofs.Leading.{is_acyclic_decides}
use Rattle.tb_board.specs.declared.board.Board.{Board}
use Rattle.tb_board.specs.Tasks.{ids, ArePlaces}
use Rattle.tb_board.specs.Good.{IsLinkedOn}
use Rattle.tb_board.specs.Links.{links}
use Rattle.tb_good.specs.Parts.{HasGoodLinks, lacks_place}
use Rattle.tb_good.proofs.Parts.{linked_tells}
use Rattle.tb_good.proofs.Telling.{part_fails}
use Rattle.tb_good.proofs.EachItem.{answer_tells}
use Rattle.tb_good.proofs.boards.has_good_links.Goals as goal

linked : (b : Board) (places : BTreeMap ℕ ℕ) (r : Bool) → ArePlaces (ids b.tasks) places → r ≡ list_all (λ (t : Task). not (lacks_place places t.depends)) b.tasks → Decides r (AllByRecursion (IsLinkedOn b) b.tasks)
linked b places r are is = answer_tells (λ (t : Task). not (lacks_place places t.depends)) (IsLinkedOn b) (linked_tells b places are) b.tasks r is

pub returns-then-not-are_linked : goal.returns-then-not-are_linked
returns-then-not-are_linked c = part_fails c.are_linked.result c.if-not-are_linked.true (linked c.args.board.now c.args.places.now c.are_linked.result c.requires.places c.are_linked.ensures) (λ good. good.linked)

pub returns : goal.returns
returns c =
    let b = c.args.board.now in
    IfOk-weaker c.is_acyclic_board.result (λ answer. answer ≡ is_acyclic (links b)) (λ answer. IsTrue answer ↔ HasGoodLinks b)
    (λ answer is.
    Decides-like answer
    (λ acyclic. record { linked = (linked b c.args.places.now c.are_linked.result c.requires.places c.are_linked.ensures).0 c.if-not-are_linked.false; acyclic = acyclic })
    (λ good. good.acyclic) (Decides-at answer (is_acyclic (links b)) is (is_acyclic_decides (links b))))
    c.is_acyclic_board.ensures
