use Rattle.sqlite.specs.Held.{state}
use Rattle.std.proofs.lemmas.Result.{IfOk-weaker}
use Rattle.tb_board.specs.declared.world.World.{World}
use Rattle.tb_core.specs.GoodWorld.{IsGoodWorld}
use Rattle.tb_rows.specs.Forms.{HasForm}
use Rattle.tb_keeper.specs.Auditing.{HasBoardsOf, Tells}
use Rattle.tb_keeper.proofs.WholeCount.{all_counted, behind}
use Rattle.tb_keeper.proofs.auditing.audit_store.Goals as goal

pub returns-clause-counted : goal.returns-clause-counted
returns-clause-counted g c =
    IfOk-weaker c.audit_boards.result _ _
    (λ audit. behind (λ content. (w : World) → IsGoodWorld w → HasForm w → HasBoardsOf w content → Tells content w.boards audit)
    (state g.S.Store c.args.conn.now) (state g.S.Store c.hold_people.new.conn) (state g.S.Store c.audit_boards.new.conn) c.in_ok-people.ensures.same)
    c.audit_boards.ensures.counted

pub returns-clause-whole : goal.returns-clause-whole
returns-clause-whole g c =
    IfOk-weaker c.audit_boards.result _ _
    (λ audit counts. all_counted (state g.S.Store c.args.conn.now) (state g.S.Store c.hold_people.new.conn) (state g.S.Store c.audit_boards.new.conn) c.in_ok-people.people audit c.in_ok-people.ensures.same
    c.audit_boards.ensures.same c.in_ok-people.ensures.people counts)
    c.audit_boards.ensures.whole
