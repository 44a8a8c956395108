use Rattle.std.proofs.Common.{◌≡◌, ◌+◌, ◌≤◌, refl}
use Rattle.sqlite.specs.Held.{state}
use Rattle.sqlite_trees.proofs.Doubt.{clean_of}
use Rattle.tb_keeper.specs.Lending.{stored_row}
use Rattle.tb_keeper.proofs.Holding.{same_at_hand}
use Rattle.tb_keeper.proofs.Settled.{settled_leaves, settled_ok, settled_told}
use Rattle.tb_keeper.proofs.Settled.{settled_fails}
use Rattle.tb_keeper.proofs.sql_keep.SqlKeep.row_behind.Goals as goal

pub returns-clause-found : goal.returns-clause-found
returns-clause-found g c clean s held =
    let k = c.args.self.now in
    settled_told k.failed k.people k.boards k.cache.entries k.cache.entries (state g.S.Store k.conn) (state g.S.Store c.find_row-end.new.conn) c.if-self.false c.find_row-end.ensures.same c.find_row-end.ensures.idle
    (λ row s. row ≡ stored_row s.world c.args.board c.args.behind) c.find_row-end.result _ c.settle.ensures.told c.find_row-end.ensures.found (clean_of (state g.S.Store c.find_row-end.new.conn).is_clean (rw c.settle.ensures.left at clean)) s held

pub returns-clause-same : goal.returns-clause-same
returns-clause-same g c =
    let k = c.args.self.now in
    rw c.settle.ensures.left (settled_leaves k.failed k.people k.boards k.cache.entries k.cache.entries (state g.S.Store k.conn) (state g.S.Store c.find_row-end.new.conn) c.if-self.false c.find_row-end.ensures.same c.find_row-end.ensures.idle
    c.find_row-end.result _ c.settle.ensures.told (same_at_hand k.cache.entries (state g.S.Store k.conn) (state g.S.Store c.find_row-end.new.conn)))

pub returns-clause-failed : goal.returns-clause-failed
returns-clause-failed g c = rw (c.settle.ensures.left, c.if-self.false) refl

pub returns-clause-clean : goal.returns-clause-clean
returns-clause-clean g c = rw c.settle.ensures.left c.find_row-end.ensures.same.clean

pub returns-clause-placed : goal.returns-clause-placed
returns-clause-placed g c = settled_ok (λ _. c.args.behind + 1 ≤ 4294967295) c.find_row-end.result _ c.settle.ensures.told c.find_row-end.ensures.placed

pub returns-clause-excused : goal.returns-clause-excused
returns-clause-excused g c is fine few =
    let k = c.args.self.now in
    let end = c.find_row-end in
    rw c.settle.ensures.left (settled_fails k.failed k.people k.boards k.cache.entries (state g.S.Store k.conn) (state g.S.Store end.new.conn) fine end.ensures.same.clean end.result _ c.settle.ensures.told
    (λ failed clean ready s both. end.ensures.excused failed few clean ready s both.0) is)
