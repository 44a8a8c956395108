use Rattle.std.proofs.Common.{◌≡◌, ◌∙◌, ◌+◌, filter, rules, ap, subst}
use Rattle.std.proofs.lemmas.Result.{IfOk-weaker}
use Rattle.sqlite.specs.Held.{state}
use Rattle.tb_history.specs.declared.page.Which.TheVariants.{OfPlace}
use Rattle.tb_sql_pages.specs.Entries.{is_entry_of, IsEntryBefore}
use Rattle.tb_sql_pages.specs.Last.{AreLast}
use Rattle.tb_lookup.specs.Histories.{AreChosen}
use Rattle.tb_lookup.specs.Reopening.{OfContent, OfState}
use Rattle.tb_lookup.proofs.HistoryPages.{place_chosen}
use Rattle.tb_lookup.proofs.histories.rows_of_place.Goals as goal

pub returns-clause-found : goal.returns-clause-found
returns-clause-found g c =
    let old = state g.S.Store c.args.conn.now in
    let new = state g.S.Store c.entry_rows_of.new.conn in
    let low : c.in-Ok.before ≡ c.args.place = search rules in
    let next : c.in-Some.place ≡ c.in-Ok.before + 1 = search rules in
    IfOk-weaker c.entry_rows_of.result (λ rows. OfContent old new (λ content. AreLast IsEntryBefore 100 (filter (is_entry_of c.args.board c.in-Some.place) content.history) rows)) (λ rows. OfState old new (λ s. AreChosen s c.args.board (OfPlace c.args.place) rows))
    (λ rows found. place_chosen old new c.args.board c.args.place rows (subst (λ n. OfContent old new (λ content. AreLast IsEntryBefore 100 (filter (is_entry_of c.args.board n) content.history) rows)) (next ∙ ap (λ n. n + 1) low) found))
    c.entry_rows_of.ensures.found
