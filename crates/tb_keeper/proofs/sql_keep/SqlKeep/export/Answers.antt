use Rattle.sqlite.specs.Held.{state}
use Rattle.tb_board.specs.World.{find_board}
use Rattle.tb_keeper.specs.Exporting.{IsCut, IsExported}
use Rattle.tb_keeper.specs.declared.export_fault.ExportFault.TheVariants.{Memory, NoBoard, Store, WriteFailed}
use Rattle.tb_keeper.proofs.ExportedBoards.{cut_none, store_other}
use Rattle.tb_keeper.proofs.Holding.{failure_leaves, honest, look_leaves, same_at_hand, told}
use Rattle.tb_keeper.proofs.sql_keep.SqlKeep.export.Goals as goal

pub returns-then-self-clause-front : goal.returns-then-self-clause-front
returns-then-self-clause-front g c is s held = cut_none (find_board s.world c.args.board) c.args.at Store (g.W.Write.contents c.args.writer.now) store_other

pub returns-in-Ok-clause-told : goal.returns-in-Ok-clause-told
returns-in-Ok-clause-told g c is s held =
    let k = c.args.self.now in
    told k.failed k.people k.boards k.cache.entries k.cache.entries (state g.S.Store k.conn) (state g.S.Store c.export_board.new.conn) c.if-self.false c.in-Ok.ensures.same c.in-Ok.ensures.idle
    (λ s. IsExported (find_board s.world c.args.board) c.args.at c.in-Ok.count (g.W.Write.contents c.args.writer.now) (g.W.Write.contents c.export_board.new.writer)) c.in-Ok.ensures.told is s held

pub returns-in-Ok-clause-same : goal.returns-in-Ok-clause-same
returns-in-Ok-clause-same g c =
    let k = c.args.self.now in
    let new = state g.S.Store c.export_board.new.conn in
    look_leaves k.failed k.people k.boards k.cache.entries k.cache.entries (state g.S.Store k.conn) new c.if-self.false c.in-Ok.ensures.same c.in-Ok.ensures.idle (same_at_hand k.cache.entries (state g.S.Store k.conn) new)

pub returns-in-Ok-clause-honest : goal.returns-in-Ok-clause-honest
returns-in-Ok-clause-honest g c = honest (state g.S.Store c.args.self.now.conn) (state g.S.Store c.export_board.new.conn) c.in-Ok.ensures.same.clean

pub returns-in-Err-Store-clause-front : goal.returns-in-Err-Store-clause-front
returns-in-Err-Store-clause-front g c is s held =
    let k = c.args.self.now in
    told k.failed k.people k.boards k.cache.entries k.cache.entries (state g.S.Store k.conn) (state g.S.Store c.export_board.new.conn) c.if-self.false c.in-Err-Store.ensures.same c.in-Err-Store.ensures.idle
    (λ s. IsCut (find_board s.world c.args.board) c.args.at Store (g.W.Write.contents c.args.writer.now) (g.W.Write.contents c.export_board.new.writer)) (rw c.in-Err-Store.field-0-is at c.in-Err-Store.ensures.front) is s held

pub returns-in-Err-Store-clause-same : goal.returns-in-Err-Store-clause-same
returns-in-Err-Store-clause-same g c =
    let k = c.args.self.now in
    let new = state g.S.Store c.export_board.new.conn in
    failure_leaves k.failed k.people k.boards k.cache.entries k.cache.entries (state g.S.Store k.conn) new c.if-self.false c.in-Err-Store.ensures.same c.in-Err-Store.ensures.idle

pub returns-in-Err-Store-clause-honest : goal.returns-in-Err-Store-clause-honest
returns-in-Err-Store-clause-honest g c = honest (state g.S.Store c.args.self.now.conn) (state g.S.Store c.export_board.new.conn) c.in-Err-Store.ensures.same.clean

pub returns-in-Err-NoBoard-clause-front : goal.returns-in-Err-NoBoard-clause-front
returns-in-Err-NoBoard-clause-front g c is s held =
    let k = c.args.self.now in
    told k.failed k.people k.boards k.cache.entries k.cache.entries (state g.S.Store k.conn) (state g.S.Store c.export_board.new.conn) c.if-self.false c.in-Err-NoBoard.ensures.same c.in-Err-NoBoard.ensures.idle
    (λ s. IsCut (find_board s.world c.args.board) c.args.at NoBoard (g.W.Write.contents c.args.writer.now) (g.W.Write.contents c.export_board.new.writer)) (rw c.in-Err-NoBoard.field-0-is at c.in-Err-NoBoard.ensures.front) is s held

pub returns-in-Err-NoBoard-clause-same : goal.returns-in-Err-NoBoard-clause-same
returns-in-Err-NoBoard-clause-same g c =
    let k = c.args.self.now in
    let new = state g.S.Store c.export_board.new.conn in
    look_leaves k.failed k.people k.boards k.cache.entries k.cache.entries (state g.S.Store k.conn) new c.if-self.false c.in-Err-NoBoard.ensures.same c.in-Err-NoBoard.ensures.idle (same_at_hand k.cache.entries (state g.S.Store k.conn) new)

pub returns-in-Err-NoBoard-clause-honest : goal.returns-in-Err-NoBoard-clause-honest
returns-in-Err-NoBoard-clause-honest g c = honest (state g.S.Store c.args.self.now.conn) (state g.S.Store c.export_board.new.conn) c.in-Err-NoBoard.ensures.same.clean

pub returns-in-Err-WriteFailed-clause-front : goal.returns-in-Err-WriteFailed-clause-front
returns-in-Err-WriteFailed-clause-front g c is s held =
    let k = c.args.self.now in
    told k.failed k.people k.boards k.cache.entries k.cache.entries (state g.S.Store k.conn) (state g.S.Store c.export_board.new.conn) c.if-self.false c.in-Err-WriteFailed.ensures.same c.in-Err-WriteFailed.ensures.idle
    (λ s. IsCut (find_board s.world c.args.board) c.args.at WriteFailed (g.W.Write.contents c.args.writer.now) (g.W.Write.contents c.export_board.new.writer)) (rw c.in-Err-WriteFailed.field-0-is at c.in-Err-WriteFailed.ensures.front) is s held

pub returns-in-Err-WriteFailed-clause-same : goal.returns-in-Err-WriteFailed-clause-same
returns-in-Err-WriteFailed-clause-same g c =
    let k = c.args.self.now in
    let new = state g.S.Store c.export_board.new.conn in
    look_leaves k.failed k.people k.boards k.cache.entries k.cache.entries (state g.S.Store k.conn) new c.if-self.false c.in-Err-WriteFailed.ensures.same c.in-Err-WriteFailed.ensures.idle (same_at_hand k.cache.entries (state g.S.Store k.conn) new)

pub returns-in-Err-WriteFailed-clause-honest : goal.returns-in-Err-WriteFailed-clause-honest
returns-in-Err-WriteFailed-clause-honest g c = honest (state g.S.Store c.args.self.now.conn) (state g.S.Store c.export_board.new.conn) c.in-Err-WriteFailed.ensures.same.clean

pub returns-in-Err-Memory-clause-front : goal.returns-in-Err-Memory-clause-front
returns-in-Err-Memory-clause-front g c is s held =
    let k = c.args.self.now in
    told k.failed k.people k.boards k.cache.entries k.cache.entries (state g.S.Store k.conn) (state g.S.Store c.export_board.new.conn) c.if-self.false c.in-Err-Memory.ensures.same c.in-Err-Memory.ensures.idle
    (λ s. IsCut (find_board s.world c.args.board) c.args.at Memory (g.W.Write.contents c.args.writer.now) (g.W.Write.contents c.export_board.new.writer)) (rw c.in-Err-Memory.field-0-is at c.in-Err-Memory.ensures.front) is s held

pub returns-in-Err-Memory-clause-same : goal.returns-in-Err-Memory-clause-same
returns-in-Err-Memory-clause-same g c =
    let k = c.args.self.now in
    let new = state g.S.Store c.export_board.new.conn in
    look_leaves k.failed k.people k.boards k.cache.entries k.cache.entries (state g.S.Store k.conn) new c.if-self.false c.in-Err-Memory.ensures.same c.in-Err-Memory.ensures.idle (same_at_hand k.cache.entries (state g.S.Store k.conn) new)

pub returns-in-Err-Memory-clause-honest : goal.returns-in-Err-Memory-clause-honest
returns-in-Err-Memory-clause-honest g c = honest (state g.S.Store c.args.self.now.conn) (state g.S.Store c.export_board.new.conn) c.in-Err-Memory.ensures.same.clean
