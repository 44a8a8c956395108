use Rattle.sqlite.specs.Held.{state}
use Rattle.tb_rows.specs.Part.{touched_board}
use Rattle.tb_keeper.proofs.Commits.{all_lead}
use Rattle.tb_keeper.proofs.KnownPeople.{known_first, known_then}
use Rattle.tb_keeper.proofs.Using.{unused}
use Rattle.tb_keeper.proofs.sql_keep.SqlKeep.call_rows.Goals as goal

pub returns-in_err-kept-clause-cached : goal.returns-in_err-kept-clause-cached
returns-in_err-kept-clause-cached g c clean s stored are = c.in_ok-rows.ensures.cached (c.in_err-kept.ensures.same.clean clean) s stored are

pub returns-in_err-entry-clause-cached : goal.returns-in_err-entry-clause-cached
returns-in_err-entry-clause-cached g c clean s stored are = c.in_ok-rows.ensures.cached (c.in_ok-kept.ensures.same.clean (c.in_err-entry.ensures.same.clean clean)) s stored are

pub returns-in-Ok-clause-cached : goal.returns-in-Ok-clause-cached
returns-in-Ok-clause-cached g c clean s stored are = c.in_ok-rows.ensures.cached (c.in_ok-kept.ensures.same.clean (c.in_ok-entry.ensures.same.clean clean)) s stored are

pub returns-in-Err-clause-cached : goal.returns-in-Err-clause-cached
returns-in-Err-clause-cached g c clean s stored are = c.in_ok-rows.ensures.cached (c.in_ok-kept.ensures.same.clean (c.in_ok-entry.ensures.same.clean clean)) s stored are

pub returns-in-Ok-clause-leads : goal.returns-in-Ok-clause-leads
returns-in-Ok-clause-leads g c =
    let k = c.args.self.now in
    rw c.in-Ok.ensures (all_lead (state g.S.Store k.conn) (state g.S.Store c.rows_for.new.conn) (state g.S.Store c.kept_row_for.new.conn) (state g.S.Store c.entry_row_for.new.conn) k.people k.boards k.cache.entries
    c.args.changes.now c.args.deed c.args.call.now c.args.reply.now c.in_ok-rows.rows c.in_ok-kept.kept c.in_ok-entry.entry c.in_ok-rows.ensures.same c.in_ok-rows.ensures.idle c.in_ok-kept.ensures.same c.in_ok-kept.ensures.idle
    c.in_ok-entry.ensures.same c.in_ok-hold_to_forms.ensures.ok c.in_ok-rows.ensures.leads c.in_ok-kept.ensures.row c.in_ok-entry.ensures.row c.in_ok-entry.ensures.moment)

pub returns-in_err-kept-clause-people : goal.returns-in_err-kept-clause-people
returns-in_err-kept-clause-people g c =
    let k = c.args.self.now in
    known_then (state g.S.Store k.conn) (state g.S.Store c.rows_for.new.conn) (state g.S.Store c.kept_row_for.new.conn) k.people c.kept_row_for.new.people c.in_ok-rows.ensures.same c.in_ok-rows.ensures.idle c.in_err-kept.ensures.people

pub returns-in_err-entry-clause-people : goal.returns-in_err-entry-clause-people
returns-in_err-entry-clause-people g c =
    let k = c.args.self.now in
    let old = state g.S.Store k.conn in
    let found = state g.S.Store c.kept_row_for.new.conn in
    known_first old found (state g.S.Store c.entry_row_for.new.conn) k.people c.kept_row_for.new.people
    (known_then old (state g.S.Store c.rows_for.new.conn) found k.people c.kept_row_for.new.people c.in_ok-rows.ensures.same c.in_ok-rows.ensures.idle c.in_ok-kept.ensures.people) c.in_err-entry.ensures.same.clean

pub returns-in-Ok-clause-people : goal.returns-in-Ok-clause-people
returns-in-Ok-clause-people g c =
    let k = c.args.self.now in
    let old = state g.S.Store k.conn in
    let found = state g.S.Store c.kept_row_for.new.conn in
    known_first old found (state g.S.Store c.entry_row_for.new.conn) k.people c.kept_row_for.new.people
    (known_then old (state g.S.Store c.rows_for.new.conn) found k.people c.kept_row_for.new.people c.in_ok-rows.ensures.same c.in_ok-rows.ensures.idle c.in_ok-kept.ensures.people) c.in_ok-entry.ensures.same.clean

pub returns-in-Err-clause-people : goal.returns-in-Err-clause-people
returns-in-Err-clause-people g c =
    let k = c.args.self.now in
    let old = state g.S.Store k.conn in
    let found = state g.S.Store c.kept_row_for.new.conn in
    known_first old found (state g.S.Store c.entry_row_for.new.conn) k.people c.kept_row_for.new.people
    (known_then old (state g.S.Store c.rows_for.new.conn) found k.people c.kept_row_for.new.people c.in_ok-rows.ensures.same c.in_ok-rows.ensures.idle c.in_ok-kept.ensures.people) c.in_ok-entry.ensures.same.clean

pub returns-in_err-hold_to_forms-clause-used : goal.returns-in_err-hold_to_forms-clause-used
returns-in_err-hold_to_forms-clause-used g c = unused c.args.self.now.cache (touched_board c.args.changes.now)
