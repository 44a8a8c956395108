use Rattle.std.proofs.Common.{◌≡◌, ◌≤◌, ◌<◌, filter, length, arith}
use Rattle.std.proofs.lemmas.Bool.Decides.{nat_tests}
use Rattle.std.proofs.lemmas.Result.{IfOk-weaker}
use Rattle.sqlite.specs.Held.{state}
use Rattle.tb_history.specs.declared.page.Which.TheVariants.{From}
use Rattle.tb_history.specs.History.{entries_on}
use Rattle.tb_sql_pages.specs.Entries.{is_entry_between, IsEntryBefore}
use Rattle.tb_sql_tables.specs.Found.{AreFound}
use Rattle.tb_lookup.specs.Histories.{AreChosen}
use Rattle.tb_lookup.specs.Reopening.{OfContent, OfState}
use Rattle.tb_lookup.proofs.HistoryPages.{from_chosen, none_chosen}
use Rattle.tb_lookup.proofs.histories.rows_from.Goals as goal

pub returns-then-number-last-clause-found : goal.returns-then-number-last-clause-found
returns-then-number-last-clause-found g c =
    let past = c.if-number-last.true in
    let above : c.args.last < c.args.number = grind (arith, nat_tests) in
    rw c.new.ensures (none_chosen (state g.S.Store c.args.conn.now) (state g.S.Store c.args.conn.now) c.args.board c.args.number c.args.last above)

pub returns-clause-found : goal.returns-clause-found
returns-clause-found g c =
    let old = state g.S.Store c.args.conn.now in
    let new = state g.S.Store c.entry_rows_between.new.conn in
    let first = c.max-first.result in
    let last = c.last_from.result in
    let few : c.args.last ≤ 4294967295 = omega (arith, c.ranges.last) in
    IfOk-weaker c.entry_rows_between.result (λ rows. OfContent old new (λ content. AreFound IsEntryBefore (filter (is_entry_between c.args.board first last) content.history) rows))
    (λ rows. OfState old new (λ s. c.args.last ≡ length (entries_on s.history c.args.board) → AreChosen s c.args.board (From c.args.number) rows))
    (λ rows found. from_chosen old new c.args.board first last rows found c.args.number c.args.last few c.max-first.ensures c.last_from.ensures) c.entry_rows_between.ensures.found
