use Rattle.std.proofs.Common.{◌∙◌, Err, ap}
use Rattle.sqlite.specs.Held.{state}
use Rattle.tb_keeper.specs.Looking.{IsGlance}
use Rattle.tb_keeper.proofs.Holding.{hand_after, hand_failure_leaves, hand_leaves, hand_told, held_of, honest}
use Rattle.tb_keeper.proofs.Looked.{all_seen}
use Rattle.tb_keeper.proofs.sql_keep.SqlKeepKeep.look.Goals as goal

pub returns-in-Ok-clause-answer : goal.returns-in-Ok-clause-answer
returns-in-Ok-clause-answer g c is s held known =
    let k = c.args.self.now in
    let both = hand_told k.failed k.people c.look_up.new.people k.boards k.cache.entries k.cache.entries (state g.S.Store k.conn) (state g.S.Store c.look_up.new.conn) c.if-self.false c.in-Ok.ensures.same c.in-Ok.ensures.idle
    (λ s. IsGlance s.world c.args.name.now c.args.command.now c.in-Ok.glance) (λ clean s stored hand. c.in-Ok.ensures.found clean s stored hand.cached_are hand.known_is) is s held in
    all_seen s.world c.args.name.now c.args.command.now c.in-Ok.glance c.look_up.new.people.count k.boards c.seen.result c.seen.ensures (c.in-Ok.ensures.people.count_is ∙ both.0.people_are) both.0.boards_are both.1

pub returns-in-Ok-clause-same : goal.returns-in-Ok-clause-same
returns-in-Ok-clause-same g c =
    let k = c.args.self.now in
    hand_leaves k.failed k.people c.look_up.new.people k.boards k.cache.entries c.look_up.new.cache.entries (state g.S.Store k.conn) (state g.S.Store c.look_up.new.conn) c.if-self.false c.in-Ok.ensures.same c.in-Ok.ensures.idle
    (hand_after k.people c.look_up.new.people k.boards k.cache.entries c.look_up.new.cache.entries (state g.S.Store k.conn) (state g.S.Store c.look_up.new.conn) c.in-Ok.ensures.people c.in-Ok.ensures.cached)

pub returns-in-Ok-clause-honest : goal.returns-in-Ok-clause-honest
returns-in-Ok-clause-honest g c = honest (state g.S.Store c.args.self.now.conn) (state g.S.Store c.look_up.new.conn) c.in-Ok.ensures.same.clean

pub returns-in-Err-Memory-clause-same : goal.returns-in-Err-Memory-clause-same
returns-in-Err-Memory-clause-same g c =
    let k = c.args.self.now in
    hand_leaves k.failed k.people c.look_up.new.people k.boards k.cache.entries c.look_up.new.cache.entries (state g.S.Store k.conn) (state g.S.Store c.look_up.new.conn) c.if-self.false c.in-Err-Memory.ensures.same c.in-Err-Memory.ensures.idle
    (hand_after k.people c.look_up.new.people k.boards k.cache.entries c.look_up.new.cache.entries (state g.S.Store k.conn) (state g.S.Store c.look_up.new.conn) c.in-Err-Memory.ensures.people c.in-Err-Memory.ensures.cached)

pub returns-in-Err-Memory-clause-honest : goal.returns-in-Err-Memory-clause-honest
returns-in-Err-Memory-clause-honest g c = honest (state g.S.Store c.args.self.now.conn) (state g.S.Store c.look_up.new.conn) c.in-Err-Memory.ensures.same.clean

pub returns-in-Err-Store-clause-same : goal.returns-in-Err-Store-clause-same
returns-in-Err-Store-clause-same g c =
    let k = c.args.self.now in
    hand_failure_leaves k.failed k.people c.look_up.new.people k.boards k.cache.entries c.look_up.new.cache.entries (state g.S.Store k.conn) (state g.S.Store c.look_up.new.conn) c.if-self.false c.in-Err-Store.ensures.same c.in-Err-Store.ensures.idle

pub returns-in-Err-Store-clause-honest : goal.returns-in-Err-Store-clause-honest
returns-in-Err-Store-clause-honest g c = honest (state g.S.Store c.args.self.now.conn) (state g.S.Store c.look_up.new.conn) c.in-Err-Store.ensures.same.clean

pub returns-in-Err-Store-clause-excused : goal.returns-in-Err-Store-clause-excused
returns-in-Err-Store-clause-excused g c is fine clean ready s held =
    let k = c.args.self.now in
    let both = held_of k.failed k.people k.boards k.cache.entries (state g.S.Store k.conn) s fine (c.in-Err-Store.ensures.same.clean clean) held in
    c.in-Err-Store.ensures.excused (ap Err c.in-Err-Store.field-0-is) clean ready s both.0
