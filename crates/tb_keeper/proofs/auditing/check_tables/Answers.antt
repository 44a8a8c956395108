use Rattle.sqlite.specs.Held.{state}
use Rattle.tb_keeper.proofs.Audited.{both_ok}
use Rattle.std.proofs.lemmas.Result.{IfOk-weaker}
use Rattle.tb_keeper.proofs.Counting.{checks}
use Rattle.tb_keeper.proofs.WholeCount.{check_whole}
use Rattle.tb_keeper.proofs.auditing.check_tables.Goals as goal

pub returns-clause-checked : goal.returns-clause-checked
returns-clause-checked g c =
    both_ok c.compare.result _ _ _ (rw (c.as_slice.ensures, c.as_slice-2.ensures) at c.compare.ensures.size)
    (rw (c.as_slice.ensures, c.as_slice-2.ensures, c.as_slice-3.ensures, c.as_slice-4.ensures) at c.compare.ensures.tells)
    (λ checked size tells.
    checks (state g.S.Store c.args.conn.now) (state g.S.Store c.task_rows.new.conn) (state g.S.Store c.gone_rows.new.conn) (state g.S.Store c.link_rows.new.conn) (state g.S.Store c.instance_rows.new.conn)
    c.args.row.now c.args.horizon c.in_ok-tasks.tasks c.in_ok-gone.gone c.in_ok-links.links c.in_ok-instances.instances checked
    c.in_ok-tasks.ensures.same c.in_ok-gone.ensures.same c.in_ok-links.ensures.same c.in_ok-instances.ensures.same
    c.in_ok-tasks.ensures.found c.in_ok-gone.ensures.found c.in_ok-links.ensures.found c.in_ok-instances.ensures.found size tells)

pub returns-clause-whole : goal.returns-clause-whole
returns-clause-whole g c =
    IfOk-weaker c.compare.result _ _
    (λ checked check.
    check_whole (state g.S.Store c.args.conn.now) (state g.S.Store c.task_rows.new.conn) (state g.S.Store c.gone_rows.new.conn) (state g.S.Store c.link_rows.new.conn) (state g.S.Store c.instance_rows.new.conn)
    c.args.row.now c.args.horizon c.in_ok-tasks.tasks c.in_ok-gone.gone c.in_ok-links.links c.in_ok-instances.instances checked
    c.in_ok-tasks.ensures.same c.in_ok-gone.ensures.same c.in_ok-links.ensures.same c.in_ok-instances.ensures.same
    c.in_ok-tasks.ensures.found c.in_ok-gone.ensures.found c.in_ok-links.ensures.found c.in_ok-instances.ensures.found check)
    (rw (c.as_slice.ensures, c.as_slice-2.ensures, c.as_slice-3.ensures, c.as_slice-4.ensures) at c.compare.ensures.whole)
