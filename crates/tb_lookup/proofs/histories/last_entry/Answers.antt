use Rattle.std.proofs.Common.{◌∙◌}
use Rattle.sqlite.specs.Held.{state}
use Rattle.tb_lookup.proofs.HistoryPages.{last_found}
use Rattle.tb_lookup.proofs.histories.last_entry.Goals as goal

pub returns-clause-found : goal.returns-clause-found
returns-clause-found g c clean s stored =
    let old = state g.S.Store c.args.conn.now in
    let new = state g.S.Store c.last_number_on.new.conn in
    c.unwrap_or.ensures ∙ last_found old new c.args.board c.in_ok-number.number c.in_ok-number.ensures.found clean s stored
