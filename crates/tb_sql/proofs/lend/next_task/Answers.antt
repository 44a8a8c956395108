use Rattle.std.proofs.Common.{[], ◌∷◌, pos}
use Rattle.sqlite_value.specs.declared.value.Value.TheVariants.{Int}
use Rattle.tb_sql.specs.Lend.{tasks_text}
use Rattle.tb_sql.proofs.Lent.{all_lent, one_more_lent}
use Rattle.tb_sql.proofs.lend.next_task.Goals as goal

pub returns-in_default-get-clause-lent : goal.returns-in_default-get-clause-lent
returns-in_default-get-clause-lent g c clean board content lent had =
    let on = c.in_default.ensures.ok clean tasks_text (Int (pos board) ∷ []) had.rows had.given in
    let found = c.in_default-get.ensures in
    all_lent g.S.Store board content c.args.rows.now.conn.now c.advance.new.self.conn.now lent had (rw (← found) at on)

pub returns-in-Ok-clause-lent : goal.returns-in-Ok-clause-lent
returns-in-Ok-clause-lent g c clean board content lent had =
    let on = c.in_default.ensures.ok clean tasks_text (Int (pos board) ∷ []) had.rows had.given in
    let found = c.in-Some.ensures in
    one_more_lent g.S.Store board content c.args.rows.now.conn.now c.advance.new.self.conn.now lent had c.in-Some.row.now c.in-Ok.task c.in-Ok.ensures.value (rw (← found) at on) (c.in_default.ensures.same clean)
