use Rattle.std.proofs.Common.{◌≡◌, refl}
use Rattle.std.specs.FinMap.{get}
use Rattle.std.proofs.lemmas.Result.{IfOk-weaker}
use Rattle.sqlite.specs.Held.{state}
use Rattle.tb_lookup.specs.Reopening.{OfState}
use Rattle.tb_keeper.specs.Holds.{IsAtHand}
use Rattle.tb_keeper.specs.PeopleAtHand.{IsKnownIn}
use Rattle.tb_keeper.proofs.Holding.{hand_after, honest, same_at_hand}
use Rattle.tb_keeper.proofs.Settled.{settled_hand_leaves, settled_hand_told}
use Rattle.tb_keeper.proofs.Settled.{settled_fails}
use Rattle.tb_keeper.proofs.sql_keep.SqlKeepKeep.kept.Goals as goal

pub returns-clause-answer : goal.returns-clause-answer
returns-clause-answer g c is s held =
    let k = c.args.self.now in
    settled_hand_told k.failed k.people c.find_reply-end.new.people k.boards k.cache.entries k.cache.entries (state g.S.Store k.conn) (state g.S.Store c.find_reply-end.new.conn) c.if-self.false c.find_reply-end.ensures.same c.find_reply-end.ensures.idle
    (λ kept s. kept ≡ get s.kept (c.args.name.now, c.args.id)) c.find_reply-end.result _ c.settle.ensures.told
    (IfOk-weaker c.find_reply-end.result (λ kept. OfState (state g.S.Store k.conn) (state g.S.Store c.find_reply-end.new.conn) (λ s. IsKnownIn s.world k.people.known → kept ≡ get s.kept (c.args.name.now, c.args.id)))
    (λ kept. OfState (state g.S.Store k.conn) (state g.S.Store c.find_reply-end.new.conn) (λ s. IsAtHand k.people k.boards k.cache.entries s.world → kept ≡ get s.kept (c.args.name.now, c.args.id)))
    (λ kept of clean s stored hand. of clean s stored hand.known_is) c.find_reply-end.ensures.found) (rw c.settle.ensures.left at is) s held

pub returns-clause-same : goal.returns-clause-same
returns-clause-same g c =
    let k = c.args.self.now in
    rw c.settle.ensures.left (settled_hand_leaves k.failed k.people c.find_reply-end.new.people k.boards k.cache.entries k.cache.entries (state g.S.Store k.conn) (state g.S.Store c.find_reply-end.new.conn) c.if-self.false c.find_reply-end.ensures.same c.find_reply-end.ensures.idle
    c.find_reply-end.result _ c.settle.ensures.told (hand_after k.people c.find_reply-end.new.people k.boards k.cache.entries k.cache.entries (state g.S.Store k.conn) (state g.S.Store c.find_reply-end.new.conn) c.find_reply-end.ensures.people
    (same_at_hand k.cache.entries (state g.S.Store k.conn) (state g.S.Store c.find_reply-end.new.conn))))

pub returns-clause-failed : goal.returns-clause-failed
returns-clause-failed g c = rw (c.settle.ensures.left, c.if-self.false) refl

pub returns-clause-honest : goal.returns-clause-honest
returns-clause-honest g c = rw c.settle.ensures.left (honest (state g.S.Store c.args.self.now.conn) (state g.S.Store c.find_reply-end.new.conn) c.find_reply-end.ensures.same.clean)

pub returns-clause-excused : goal.returns-clause-excused
returns-clause-excused g c is fine =
    let k = c.args.self.now in
    let end = c.find_reply-end in
    rw c.settle.ensures.left (settled_fails k.failed k.people k.boards k.cache.entries (state g.S.Store k.conn) (state g.S.Store end.new.conn) fine end.ensures.same.clean end.result _ c.settle.ensures.told
    (λ failed clean ready s both. end.ensures.excused failed clean ready s (both.0, both.1.known_is)) is)
