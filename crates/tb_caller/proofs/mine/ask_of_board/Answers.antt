use Rattle.std.proofs.Common.{rules, ◌≡◌, Some, codes, false, subst, sym, true}
use Rattle.std.proofs.lemmas.Result.{IfOk-weaker}
use Rattle.tb_caller.specs.Mine.{IsDoneIf, is_alone}
use Rattle.tb_caller.proofs.mine.ask_of_board.Goals as goal

pub returns-then-is_alone-clause-asked : goal.returns-then-is_alone-clause-asked
returns-then-is_alone-clause-asked g c =
    let contents = g.W.Write.contents in
    let words = c.args.words.now in
    let asker = c.args.caller.now.asker in
    let context = c.in_ok-context.context in
    let is : is_alone words (codes "boards") ≡ true = search rules in
    IfOk-weaker c.ask_words.result _ _
    (λ ok p. (
      p.0,
      p.1,
      (
        context,
        c.in_ok-context.ensures.me,
        subst (λ b. IsDoneIf b context words asker p.0 (contents c.args.writer.now) (contents c.ask_words.new.writer) ok) (sym is) p.2,
      ),
    ))
    c.ask_words.ensures.asked

pub returns-clause-asked : goal.returns-clause-asked
returns-clause-asked g c =
    let contents = g.W.Write.contents in
    let words = c.args.words.now in
    let asker = c.args.caller.now.asker in
    let context = c.in_ok-context-2.context in
    let is : is_alone words (codes "boards") ≡ false = search rules in
    let board : asker.board ≡ Some context.board = search rules in
    IfOk-weaker c.ask_on_board.result _ _
    (λ ok p. (
      p.0,
      p.1,
      (
        context,
        c.in_ok-context-2.ensures.me,
        subst (λ b. IsDoneIf b context words asker p.0 (contents c.args.writer.now) (contents c.ask_on_board.new.writer) ok) (sym is) (board, p.2),
      ),
    ))
    c.ask_on_board.ensures.asked
