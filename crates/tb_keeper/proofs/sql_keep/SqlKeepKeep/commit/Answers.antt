use Rattle.std.proofs.Common.{◌∙◌, Err, ap, refl, subst}
use Rattle.sqlite.specs.Held.{state}
use Rattle.sqlite.specs.State.{HasCleanDisk}
use Rattle.tb_keeper.proofs.Commits.{commit_memory, commit_ok, commit_store, either_first, either_second}
use Rattle.tb_rows.specs.Part.{touched_board}
use Rattle.tb_keeper.proofs.Holding.{honest}
use Rattle.tb_keeper.proofs.Using.{unused}
use Rattle.tb_keeper.proofs.sql_keep.SqlKeepKeep.commit.Goals as goal

pub returns-in-Ok-clause-ok : goal.returns-in-Ok-clause-ok
returns-in-Ok-clause-ok g c s held may =
    let k = c.args.self.now in
    let later = c.write_call.new.self in
    let last = c.follow.new.self in
    commit_ok k.failed k.people k.boards k.cache.entries (state g.S.Store k.conn) s c.args.changes.now c.args.deed c.args.call.now c.if-self.false held may (state g.S.Store later.conn) later.failed later.people later.boards later.cache.entries
    c.in-Ok.ensures.failed c.in-Ok.ensures.people c.in-Ok.ensures.boards c.in-Ok.ensures.clean c.in-Ok.ensures.cached
    c.args.reply.now last.failed last.people last.boards last.cache.entries (state g.S.Store last.conn) c.follow.ensures.failed (ap (λ h. state g.S.Store h) c.follow.ensures.conn) c.in-Ok.ensures.ok c.follow.ensures.hand

pub returns-in-Ok-clause-store : goal.returns-in-Ok-clause-store
returns-in-Ok-clause-store g c s held may fine =
    let last = c.follow.new.self in
    either_second last.failed last.people last.boards last.cache.entries (state g.S.Store last.conn) s _ (c.follow.ensures.failed ∙ c.in-Ok.ensures.failed ∙ fine) (returns-in-Ok-clause-ok g c s held may)

pub returns-in-Ok-clause-honest : goal.returns-in-Ok-clause-honest
returns-in-Ok-clause-honest g c =
    let same = ap (λ h. state g.S.Store h) c.follow.ensures.conn in
    honest (state g.S.Store c.args.self.now.conn) (state g.S.Store c.follow.new.self.conn) (λ clean. c.in-Ok.ensures.clean (subst HasCleanDisk same clean))

pub returns-in-Err-Memory-clause-memory : goal.returns-in-Err-Memory-clause-memory
returns-in-Err-Memory-clause-memory g c s held may _ =
    let k = c.args.self.now in
    let later = c.write_call.new.self in
    commit_memory k.failed k.people k.boards k.cache.entries (state g.S.Store k.conn) s c.args.changes.now c.args.deed c.args.call.now c.if-self.false held may (state g.S.Store later.conn) later.failed later.people later.boards later.cache.entries
    c.in-Err-Memory.ensures.failed c.in-Err-Memory.ensures.people c.in-Err-Memory.ensures.boards c.in-Err-Memory.ensures.clean c.in-Err-Memory.ensures.cached
    (c.in-Err-Memory.ensures.memory (ap Err c.in-Err-Memory.field-0-is))

pub returns-in-Err-Memory-clause-store : goal.returns-in-Err-Memory-clause-store
returns-in-Err-Memory-clause-store g c s held may fine =
    let k = c.args.self.now in
    let later = c.write_call.new.self in
    either_first later.failed later.people later.boards later.cache.entries (state g.S.Store later.conn) s _ (c.in-Err-Memory.ensures.failed ∙ fine)
    (commit_memory k.failed k.people k.boards k.cache.entries (state g.S.Store k.conn) s c.args.changes.now c.args.deed c.args.call.now c.if-self.false held may (state g.S.Store later.conn) later.failed later.people later.boards later.cache.entries
    c.in-Err-Memory.ensures.failed c.in-Err-Memory.ensures.people c.in-Err-Memory.ensures.boards c.in-Err-Memory.ensures.clean c.in-Err-Memory.ensures.cached
    (c.in-Err-Memory.ensures.memory (ap Err c.in-Err-Memory.field-0-is)))

pub returns-in-Err-Memory-clause-honest : goal.returns-in-Err-Memory-clause-honest
returns-in-Err-Memory-clause-honest g c = honest (state g.S.Store c.args.self.now.conn) (state g.S.Store c.write_call.new.self.conn) c.in-Err-Memory.ensures.clean

pub returns-in-Err-Store-clause-store : goal.returns-in-Err-Store-clause-store
returns-in-Err-Store-clause-store g c s held may fine =
    let k = c.args.self.now in
    let later = c.write_call.new.self in
    commit_store k.failed k.people k.boards k.cache.entries (state g.S.Store k.conn) s c.args.changes.now c.args.deed c.args.call.now c.if-self.false held may (state g.S.Store later.conn) later.failed later.people later.boards later.cache.entries
    c.in-Err-Store.ensures.failed c.in-Err-Store.ensures.people c.in-Err-Store.ensures.boards c.in-Err-Store.ensures.clean c.in-Err-Store.ensures.cached
    c.args.reply.now (c.in-Err-Store.ensures.store (ap Err c.in-Err-Store.field-0-is))

pub returns-in-Err-Store-clause-honest : goal.returns-in-Err-Store-clause-honest
returns-in-Err-Store-clause-honest g c = honest (state g.S.Store c.args.self.now.conn) (state g.S.Store c.write_call.new.self.conn) c.in-Err-Store.ensures.clean

-- ---- what is at hand

pub returns-then-self-clause-used : goal.returns-then-self-clause-used
returns-then-self-clause-used g c =
    let cache = c.args.self.now.cache in
    (cache.entries, unused cache (touched_board c.args.changes.now), refl, tt)

pub returns-in-Ok-clause-used : goal.returns-in-Ok-clause-used
returns-in-Ok-clause-used g c = (c.write_call.new.self.cache.entries, c.in-Ok.ensures.used, tt, c.follow.ensures.others)

pub returns-in-Err-Memory-clause-used : goal.returns-in-Err-Memory-clause-used
returns-in-Err-Memory-clause-used g c = (c.write_call.new.self.cache.entries, c.in-Err-Memory.ensures.used, refl, tt)

pub returns-in-Err-Store-clause-used : goal.returns-in-Err-Store-clause-used
returns-in-Err-Store-clause-used g c = (c.write_call.new.self.cache.entries, c.in-Err-Store.ensures.used, refl, tt)
