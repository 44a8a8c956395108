use Rattle.std.proofs.Common.{◌≡◌, ◌∙◌, Err, sym, ap}
use Rattle.std.proofs.lemmas.Result.{err_from_is_err_and}
use Rattle.sqlite.specs.Held.{state}
use Rattle.tb_sql.specs.declared.store.StoreFault.TheVariants.{Memory, Store}
use Rattle.tb_keeper.proofs.Taken.{either_of_second, widened_held}
use Rattle.tb_keeper.proofs.opening.widened.Goals as goal

pub returns-clause-held : goal.returns-clause-held
returns-clause-held g c =
    widened_held (state g.S.Store c.args.conn.now) (state g.S.Store c.widen.new.conn) c.in_ok-counts.counts c.in-Ok.cache.entries c.in-Ok.ensures c.in_ok-counts.ensures.idle c.in_ok-counts.ensures.usable c.in_ok-counts.ensures.done

pub returns-in_err-counts-clause-memory : goal.returns-in_err-counts-clause-memory
returns-in_err-counts-clause-memory g c is =
    let p = err_from_is_err_and c.from_residual.result c.from_residual.ensures.1 in
    let both = sym p.1 ∙ is in
    let fault : p.0 ≡ Memory = cc in
    c.in_err-counts.ensures.memory (ap Err (sym p.2 ∙ fault))

pub returns-in_err-counts-clause-store : goal.returns-in_err-counts-clause-store
returns-in_err-counts-clause-store g c is =
    let p = err_from_is_err_and c.from_residual.result c.from_residual.ensures.1 in
    let both = sym p.1 ∙ is in
    let fault : p.0 ≡ Store = cc in
    either_of_second (state g.S.Store c.args.conn.now) (state g.S.Store c.widen.new.conn) (c.in_err-counts.ensures.store (ap Err (sym p.2 ∙ fault)))
