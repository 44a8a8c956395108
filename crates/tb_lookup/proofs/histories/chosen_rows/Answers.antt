use Rattle.std.proofs.Common.{◌≡◌, filter, length}
use Rattle.std.proofs.lemmas.Result.{IfOk-weaker}
use Rattle.sqlite.specs.Held.{state}
use Rattle.tb_history.specs.declared.page.Which.TheVariants.{Last}
use Rattle.tb_history.specs.History.{entries_on}
use Rattle.tb_sql_pages.specs.Entries.{is_entry_between, IsEntryBefore}
use Rattle.tb_sql_tables.specs.Found.{AreFound}
use Rattle.tb_lookup.specs.Histories.{AreChosen}
use Rattle.tb_lookup.specs.Reopening.{OfContent, OfState}
use Rattle.tb_lookup.proofs.HistoryPages.{last_chosen}
use Rattle.tb_lookup.proofs.histories.chosen_rows.Goals as goal

pub returns-in-Last-clause-found : goal.returns-in-Last-clause-found
returns-in-Last-clause-found g c =
    let old = state g.S.Store c.args.conn.now in
    let new = state g.S.Store c.entry_rows_between.new.conn in
    let first = c.first_of_last.result in
    rw c.in-Last.is (IfOk-weaker c.entry_rows_between.result (λ rows. OfContent old new (λ content. AreFound IsEntryBefore (filter (is_entry_between c.args.board first c.args.last) content.history) rows))
    (λ rows. OfState old new (λ s. c.args.last ≡ length (entries_on s.history c.args.board) → AreChosen s c.args.board Last rows))
    (λ rows found. last_chosen old new c.args.board first c.args.last rows found c.first_of_last.ensures) c.entry_rows_between.ensures.found)
