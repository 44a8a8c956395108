use Rattle.sqlite.specs.Held.{state}
use Rattle.tb_keeper.proofs.Audited.{audit_sound}
use Rattle.tb_keeper.proofs.Holding.{failure_leaves, look_leaves, same_at_hand}
use Rattle.tb_keeper.proofs.sql_keep.SqlKeep.audit.Goals as goal

pub returns-in-Ok-clause-sound : goal.returns-in-Ok-clause-sound
returns-in-Ok-clause-sound g c = audit_sound (state g.S.Store c.args.self.now.conn) (state g.S.Store c.audit_store.new.conn) c.in-Ok.audit c.in-Ok.ensures.counted

pub returns-in-Ok-clause-same : goal.returns-in-Ok-clause-same
returns-in-Ok-clause-same g c =
    let keep = c.args.self.now in
    let old = state g.S.Store keep.conn in
    let new = state g.S.Store c.audit_store.new.conn in
    look_leaves keep.failed keep.people keep.boards keep.cache.entries keep.cache.entries old new c.if-self.false c.in-Ok.ensures.same c.in-Ok.ensures.idle (same_at_hand keep.cache.entries old new)

pub returns-in-Err-Memory-clause-same : goal.returns-in-Err-Memory-clause-same
returns-in-Err-Memory-clause-same g c =
    let keep = c.args.self.now in
    let old = state g.S.Store keep.conn in
    let new = state g.S.Store c.audit_store.new.conn in
    look_leaves keep.failed keep.people keep.boards keep.cache.entries keep.cache.entries old new c.if-self.false c.in-Err-Memory.ensures.same c.in-Err-Memory.ensures.idle (same_at_hand keep.cache.entries old new)

pub returns-in-Err-Store-clause-same : goal.returns-in-Err-Store-clause-same
returns-in-Err-Store-clause-same g c =
    let keep = c.args.self.now in
    failure_leaves keep.failed keep.people keep.boards keep.cache.entries keep.cache.entries (state g.S.Store keep.conn) (state g.S.Store c.audit_store.new.conn) c.if-self.false c.in-Err-Store.ensures.same c.in-Err-Store.ensures.idle
