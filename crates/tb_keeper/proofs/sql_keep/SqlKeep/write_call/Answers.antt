use Rattle.std.proofs.Common.{◌≡◌, inl, Err, ap}
use Rattle.sqlite.specs.Held.{state}
use Rattle.tb_calls.specs.Keep.{MayCommit, with_reply}
use Rattle.tb_lookup.proofs.Standing.{stored_again}
use Rattle.tb_rows.specs.Part.{touched_board}
use Rattle.tb_sql.specs.declared.store.StoreFault.TheVariants.{Memory, Store}
use Rattle.tb_keeper.specs.Holds.{IsAtHand}
use Rattle.tb_keeper.proofs.Commits.{write_done, write_failed, write_undone}
use Rattle.tb_keeper.proofs.KnownPeople.{known_first}
use Rattle.tb_keeper.proofs.Using.{unused}
use Rattle.tb_keeper.proofs.sql_keep.SqlKeep.write_call.Goals as goal

pub returns-in_err-rows-clause-memory : goal.returns-in_err-rows-clause-memory
returns-in_err-rows-clause-memory g c _ clean s stored = stored_again s (state g.S.Store c.args.self.now.conn) (state g.S.Store c.call_rows.new.self.conn) stored c.in_err-rows.ensures.same c.in_err-rows.ensures.idle

pub returns-in_err-rows-clause-store : goal.returns-in_err-rows-clause-store
returns-in_err-rows-clause-store g c _ clean s stored hand may = inl (stored_again s (state g.S.Store c.args.self.now.conn) (state g.S.Store c.call_rows.new.self.conn) stored c.in_err-rows.ensures.same c.in_err-rows.ensures.idle)

pub returns-in-Ok-clause-cached : goal.returns-in-Ok-clause-cached
returns-in-Ok-clause-cached g c clean s stored are = c.in_ok-rows.ensures.cached (c.in-Ok.ensures.clean clean) s stored are

pub returns-in-Ok-clause-ok : goal.returns-in-Ok-clause-ok
returns-in-Ok-clause-ok g c =
    let k = c.args.self.now in
    write_done (state g.S.Store k.conn) (state g.S.Store c.call_rows.new.self.conn) (state g.S.Store c.write_rows.new.conn) (λ s. IsAtHand k.people k.boards k.cache.entries s.world)
    (λ s. MayCommit s c.args.changes.now c.args.deed c.args.call.now) (λ s. with_reply s c.args.changes.now c.args.deed c.args.call.now c.args.reply.now) c.in_ok-rows.rows c.in_ok-rows.ensures.same c.in_ok-rows.ensures.idle c.in-Ok.ensures.clean
    c.in_ok-rows.ensures.leads (rw c.as_slice.ensures at c.in-Ok.ensures.done) c.in-Ok.ensures.idle

pub returns-in-Ok-clause-bytes : goal.returns-in-Ok-clause-bytes
returns-in-Ok-clause-bytes g c = (c.in_ok-rows.rows, c.bytes_of_call.ensures, λ clean. c.in_ok-rows.ensures.leads (c.in-Ok.ensures.clean clean))

pub returns-clause-memory : goal.returns-clause-memory
returns-clause-memory g c is =
    let k = c.args.self.now in
    let fault : c.in-Err.fault ≡ Memory = cc in
    write_undone (state g.S.Store k.conn) (state g.S.Store c.call_rows.new.self.conn) (state g.S.Store c.write_rows.new.conn) (λ s. IsAtHand k.people k.boards k.cache.entries s.world)
    (λ s. MayCommit s c.args.changes.now c.args.deed c.args.call.now) (λ s. with_reply s c.args.changes.now c.args.deed c.args.call.now c.args.reply.now) c.in_ok-rows.rows c.in_ok-rows.ensures.same c.in_ok-rows.ensures.idle c.in-Err.ensures.clean
    (c.in-Err.ensures.memory (ap Err fault)) c.in-Err.ensures.idle

pub returns-clause-store : goal.returns-clause-store
returns-clause-store g c is =
    let k = c.args.self.now in
    let fault : c.in-Err.fault ≡ Store = cc in
    write_failed (state g.S.Store k.conn) (state g.S.Store c.call_rows.new.self.conn) (state g.S.Store c.write_rows.new.conn) (λ s. IsAtHand k.people k.boards k.cache.entries s.world)
    (λ s. MayCommit s c.args.changes.now c.args.deed c.args.call.now) (λ s. with_reply s c.args.changes.now c.args.deed c.args.call.now c.args.reply.now) c.in_ok-rows.rows c.in_ok-rows.ensures.same c.in_ok-rows.ensures.idle c.in-Err.ensures.clean
    c.in_ok-rows.ensures.leads (rw c.as_slice.ensures at (c.in-Err.ensures.store (ap Err fault)))

pub returns-in-Ok-clause-people : goal.returns-in-Ok-clause-people
returns-in-Ok-clause-people g c =
    let k = c.args.self.now in
    known_first (state g.S.Store k.conn) (state g.S.Store c.call_rows.new.self.conn) (state g.S.Store c.write_rows.new.conn) k.people c.call_rows.new.self.people c.in_ok-rows.ensures.people c.in-Ok.ensures.clean

pub returns-clause-people : goal.returns-clause-people
returns-clause-people g c =
    let k = c.args.self.now in
    known_first (state g.S.Store k.conn) (state g.S.Store c.call_rows.new.self.conn) (state g.S.Store c.write_rows.new.conn) k.people c.call_rows.new.self.people c.in_ok-rows.ensures.people c.in-Err.ensures.clean

pub returns-then-not-is_autocommit-clause-used : goal.returns-then-not-is_autocommit-clause-used
returns-then-not-is_autocommit-clause-used g c = unused c.args.self.now.cache (touched_board c.args.changes.now)
