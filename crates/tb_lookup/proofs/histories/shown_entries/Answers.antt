use Rattle.std.proofs.Common.{rules}
use Rattle.sqlite.specs.Held.{state}
use Rattle.tb_lookup.proofs.ShownEntries.{shown_more}
use Rattle.tb_lookup.proofs.Standing.{before_then}
use Rattle.tb_lookup.proofs.histories.shown_entries.Goals as goal

pub loop-row-preserved : goal.loop-row-preserved
loop-row-preserved g c =
    let start = state g.S.Store c.args.conn.now in
    let before = state g.S.Store c.loop-row.conn in
    let after = state g.S.Store c.shown_entry.new.conn in
    let i = c.loop-row.invariant in
    let here = c.in_ok-entry.ensures in
    record {
      idle = here.idle;
      same = before_then start before after i.same here.same;
      shown = rw c.in_ok-put.ensures (shown_more start before after c.args.board.now c.args.rows.now c.loop-row.row-index _ c.loop-row.entries c.in_ok-entry.entry i.same i.idle here.same (search rules) (search rules) i.shown here.found);
    }
