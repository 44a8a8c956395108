use Rattle.std.proofs.Common.{rules, arith, ◌<◌, ◌≤◌, false, length, refl, subst, true}
use Rattle.std.proofs.lemmas.List.{take_all}
use Rattle.tb_mine.proofs.Imports.{Taken, all_taken, refused_at, taking_on}
use Rattle.tb_mine.proofs.importing.import_parts.Goals as goal

pub loop-part-preserved : goal.loop-part-preserved
loop-part-preserved g c =
    let contents = g.W.Write.contents in
    let parts = c.args.parts.now in
    let within : c.loop-part.part-index < length parts = omega arith in
    taking_on g.A.Asks.follows g.A.Asks.joined c.args.is_json c.args.board.now parts c.loop-part.part-index c.part-item.result true
    (contents c.args.writer.now) (contents c.loop-part.writer) (contents c.import_part.new.writer) c.args.asks.now c.loop-part.asks c.import_part.new.asks within c.part-item.is
    refl c.loop-part.invariant (search rules)

pub returns-then-not-branch-clause-asked : goal.returns-then-not-branch-clause-asked
returns-then-not-branch-clause-asked g c =
    let contents = g.W.Write.contents in
    let parts = c.args.parts.now in
    let within : c.loop-part.part-index < length parts = omega arith in
    refused_at g.A.Asks.follows g.A.Asks.joined c.args.is_json c.args.board.now parts c.loop-part.part-index c.part-item.result false
    (contents c.args.writer.now) (contents c.loop-part.writer) (contents c.import_part.new.writer) c.args.asks.now c.loop-part.asks c.import_part.new.asks within c.part-item.is
    refl c.loop-part.invariant (search rules)

pub returns-clause-asked : goal.returns-clause-asked
returns-clause-asked g c =
    let follows = g.A.Asks.follows in
    let contents = g.W.Write.contents in
    let parts = c.args.parts.now in
    let all : length parts ≤ c.loop-part.part-index = omega arith in
    let are = subst (λ ps. Taken follows c.args.is_json c.args.board.now ps (contents c.args.writer.now) (contents c.loop-part.writer) c.args.asks.now c.loop-part.asks)
    (take_all c.loop-part.part-index parts all) c.loop-part.invariant in
    all_taken follows c.args.is_json c.args.board.now parts (contents c.args.writer.now) (contents c.loop-part.writer) c.args.asks.now c.loop-part.asks are
