use Rattle.sqlite.specs.Held.{state}
use Rattle.tb_lookup.proofs.ShownEntries.{page_seen}
use Rattle.tb_lookup.proofs.histories.history_page.Goals as goal

pub returns-clause-found : goal.returns-clause-found
returns-clause-found g c =
    let old = state g.S.Store c.args.conn.now in
    let counted = state g.S.Store c.last_entry.new.conn in
    let found = state g.S.Store c.chosen_rows.new.conn in
    let new = state g.S.Store c.shown_entries.new.conn in
    page_seen old counted found new c.args.board.now c.args.which c.in_ok-last.last c.in_ok-rows.rows c.in_ok-entries.entries c.in_ok-last.ensures.same c.in_ok-last.ensures.idle c.in_ok-rows.ensures.same c.in_ok-rows.ensures.idle c.in_ok-entries.ensures.same
    c.in_ok-last.ensures.found c.in_ok-rows.ensures.found (rw c.as_slice.ensures at c.in_ok-entries.ensures.found)
