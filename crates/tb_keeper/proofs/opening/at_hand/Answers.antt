use Rattle.std.proofs.Common.{◌≡◌, ◌∙◌, Err, sym, ap}
use Rattle.std.proofs.lemmas.Result.{err_from_is_err_and}
use Rattle.sqlite.specs.Held.{state}
use Rattle.tb_sql.specs.declared.store.StoreFault.TheVariants.{Store}
use Rattle.tb_sql_tables.specs.Content.{Stands}
use Rattle.tb_sql_tables.proofs.Failing.{faults_then}
use Rattle.tb_lookup.proofs.Standing.{fails_then, stood, stored_again}
use Rattle.tb_keeper.proofs.Holding.{none_at_hand}
use Rattle.tb_keeper.proofs.opening.at_hand.Goals as goal

pub returns-clause-held : goal.returns-clause-held
returns-clause-held g c clean s stored =
    let mid = state g.S.Store c.count_people.new.conn in
    record {
      people_are = c.in_ok-people.ensures.found (c.in_ok-boards.ensures.same.clean clean) s stored;
      known_is = tt;
      boards_are = c.in_ok-boards.ensures.found clean s (stored_again s (state g.S.Store c.args.conn.now) mid stored c.in_ok-people.ensures.same c.in_ok-people.ensures.idle);
      cached_are = none_at_hand s.world c.in-Ok.cache.entries c.in-Ok.ensures;
    }

pub returns-in_err-boards-clause-excused : goal.returns-in_err-boards-clause-excused
returns-in_err-boards-clause-excused g c is =
    let start = state g.S.Store c.args.conn.now in
    let mid = state g.S.Store c.count_people.new.conn in
    let new = state g.S.Store c.count_boards.new.conn in
    let people = c.in_ok-people.ensures in
    let boards = c.in_err-boards.ensures in
    let p = err_from_is_err_and c.from_residual-in_err-boards.result c.from_residual-in_err-boards.ensures.1 in
    let both = sym p.1 ∙ is in
    let failed : p.0 ≡ Store = cc in
    fails_then (λ content. Stands content start) (λ content. Stands content mid) start mid new (λ _ _ content stands. stood content start mid stands people.same) people.faults boards.same.clean boards.faults (boards.excused (ap Err (sym p.2 ∙ failed)))

pub returns-in_err-boards-clause-faults : goal.returns-in_err-boards-clause-faults
returns-in_err-boards-clause-faults g c =
    faults_then _ (state g.S.Store c.count_people.new.conn) _ c.in_ok-people.ensures.faults c.in_err-boards.ensures.same.clean c.in_err-boards.ensures.faults

pub returns-clause-faults : goal.returns-clause-faults
returns-clause-faults g c =
    faults_then _ (state g.S.Store c.count_people.new.conn) _ c.in_ok-people.ensures.faults c.in_ok-boards.ensures.same.clean c.in_ok-boards.ensures.faults
