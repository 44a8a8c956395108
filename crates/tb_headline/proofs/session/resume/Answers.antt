use Rattle.std.proofs.Common.{Ok}
use Rattle.sqlite.specs.Held.{state}
use Rattle.tb_headline.proofs.Left.{at, held_file, stays}
use Rattle.tb_headline.proofs.Refused.{has_first, refused, said}
use Rattle.tb_headline.proofs.Stopped.{stopped}
use Rattle.tb_headline.proofs.session.resume.Goals as goal

pub returns-in-Ok-clause-begun : goal.returns-in-Ok-clause-begun
returns-in-Ok-clause-begun g c opens s rows =
    let keep = c.in-Ok.keep in
    let new = state g.S.Store keep.conn in
    let was = (state g.S.Store c.args.conn).now.trees in
    let given = c.in-Ok.ensures in
    let held =
    held_file keep.failed keep.people keep.boards keep.cache.entries new s was rows (λ clean. given.opened clean opens s) (λ clean. given.migrated clean opens s) in
    rw c.new.ensures (at keep.failed keep.people keep.boards keep.cache.entries new s held given.fresh)

pub returns-in-Ok-clause-stopped : goal.returns-in-Ok-clause-stopped
returns-in-Ok-clause-stopped g c opens s rows =
    let keep = c.in-Ok.keep in
    let new = state g.S.Store keep.conn in
    let was = (state g.S.Store c.args.conn).now.trees in
    let given = c.in-Ok.ensures in
    let held =
    held_file keep.failed keep.people keep.boards keep.cache.entries new s was rows (λ clean. given.opened clean opens s) (λ clean. given.migrated clean opens s) in
    rw c.new.ensures (stays keep.failed keep.people keep.boards keep.cache.entries new s held given.fresh)

pub returns-in-Ok-clause-said : goal.returns-in-Ok-clause-said
returns-in-Ok-clause-said g c = rw c.new.ensures (λ clean.
    let version = c.in-Ok.keep.found in
    let first = has_first version c.args.conn.schema c.in-Ok.ensures.tables in
    let told = rw c.in-Ok.is at c.open.ensures.version first in
    said g.S.Store c.args.conn (Ok version) (λ is. absurd (cc)) (λ is. absurd (cc)) (told clean))

pub returns-in-Err-clause-stopped : goal.returns-in-Err-clause-stopped
returns-in-Err-clause-stopped g c =
    let conn = c.args.conn in
    stopped (state g.S.Store conn) (state g.S.Store c.in-Err.refused.0) (λ db is_open. g.met.S.Store.settled conn.store db is_open)
    c.in-Err.refused.1 c.is_live.ensures c.in-Err.ensures.refused c.in-Err.ensures.stopped

pub returns-in-Err-clause-refused : goal.returns-in-Err-clause-refused
returns-in-Err-clause-refused g c =
    let unmarked = rw c.in-Err.is at c.open.ensures.unmarked in
    refused g.S.Store c.args.conn (state g.S.Store c.in-Err.refused.0) c.in-Err.refused.1
    c.in-Err.ensures.foreign unmarked c.in-Err.ensures.shown c.in-Err.ensures.excused c.in-Err.ensures.hides
