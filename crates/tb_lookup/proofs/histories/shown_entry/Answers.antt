use Rattle.std.proofs.Common.{◌≡◌, None, option_map}
use Rattle.std.proofs.lemmas.Result.{IfOk-weaker}
use Rattle.sqlite.specs.Held.{state}
use Rattle.tb_history.specs.Pages.{with_content}
use Rattle.tb_lookup.specs.Histories.{IsShown}
use Rattle.tb_lookup.specs.Reopening.{OfState}
use Rattle.tb_lookup.proofs.ShownEntries.{entry_shown, import_shown}
use Rattle.tb_lookup.proofs.histories.shown_entry.Goals as goal

pub returns-then-is_import-clause-found : goal.returns-then-is_import-clause-found
returns-then-is_import-clause-found g c =
    let old = state g.S.Store c.args.conn.now in
    let new = state g.S.Store c.stored_entry.new.conn in
    let board = c.args.board.now in
    let row = c.args.row.now in
    let entry = c.in_ok-entry.entry in
    let task = c.task_at-task.result in
    let import = c.is_import.ensures c.if-is_import.true in
    IfOk-weaker c.shown.result (λ shown. shown ≡ with_content row.number entry task None) (λ shown. OfState old new (λ s. IsShown s board row shown))
    (λ shown made. import_shown old new board row entry shown task c.in_ok-entry.ensures.found import c.task_at-task.ensures made) c.shown.ensures

pub returns-clause-found : goal.returns-clause-found
returns-clause-found g c =
    let old = state g.S.Store c.args.conn.now in
    let mid = state g.S.Store c.stored_entry.new.conn in
    let new = state g.S.Store c.stored_reply.new.conn in
    let board = c.args.board.now in
    let row = c.args.row.now in
    let entry = c.in_ok-entry.entry in
    let kept = c.in-Some.kept in
    let task = c.task_at-task.result in
    let content = option_map (λ text. text.now) c.shown_content-content.result in
    IfOk-weaker c.shown-2.result (λ shown. shown ≡ with_content row.number entry task content) (λ shown. OfState old new (λ s. IsShown s board row shown))
    (λ shown made. entry_shown old mid new board row entry kept shown task content c.in_ok-entry.ensures.same c.in_ok-entry.ensures.idle c.in_ok-kept.ensures.same c.in_ok-entry.ensures.found
    (rw c.in-Some.is at c.in_ok-kept.ensures.found) c.task_at-task.ensures (rw c.as_slice.ensures at c.shown_content-content.ensures) made) c.shown-2.ensures
