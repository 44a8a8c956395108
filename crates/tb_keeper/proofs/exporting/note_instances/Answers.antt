use Rattle.std.proofs.Common.{rules}
use Rattle.sqlite.specs.Held.{state}
use Rattle.tb_lookup.proofs.Standing.{before_then}
use Rattle.tb_keeper.proofs.NotedRows.{noted_all, noted_more}
use Rattle.tb_keeper.proofs.exporting.note_instances.Goals as goal

pub loop-instance-preserved : goal.loop-instance-preserved
loop-instance-preserved g c =
    let start = state g.S.Store c.args.conn.now in
    let l = c.loop-instance in
    let before = state g.S.Store l.conn in
    let after = state g.S.Store c.note_instance.new.conn in
    let here = c.in_ok-note_instance.ensures in
    record {
      idle = here.idle;
      same = before_then start before after l.invariant.same here.same;
      noted = noted_more start before after c.args.at c.args.board l.instance-index c.args.instances.now _ l.notes c.note_instance.new.notes l.invariant.same l.invariant.idle here.same
          c.loop-instance-test.true (search rules) here.noted l.invariant.noted;
    }

pub returns-clause-found : goal.returns-clause-found
returns-clause-found g c =
    noted_all (state g.S.Store c.args.conn.now) (state g.S.Store c.loop-instance.conn) c.args.at c.args.board c.loop-instance.instance-index c.args.instances.now c.loop-instance.notes c.loop-instance-test.false c.loop-instance.invariant.noted
