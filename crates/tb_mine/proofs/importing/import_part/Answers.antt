use Rattle.std.proofs.Common.{rules, ◌≡◌, ◌∷◌, ◌++◌, [], None, true, refl, sym}
use Rattle.std.specs.Io.KnownBytes.{Appends}
use Rattle.tb_mine.specs.Asked.{Asked, asked_of}
use Rattle.tb_my.specs.Importing.{import_told, import_words}
use Rattle.tb_mine.proofs.importing.import_part.Goals as goal

pub returns-clause-asked : goal.returns-clause-asked
returns-clause-asked g c =
    let answer = c.in_ok-answer.answer in
    let accepted : answer.is_accepted ≡ true = search rules in
    let asked : Asked = asked_of (import_words c.args.is_json c.args.board.now c.args.part.now) None answer in
    let first : g.A.Asks.follows (asked ∷ []) c.args.asks.now c.ask.new.self = search rules in
    let told : Appends (g.W.Write.contents c.args.writer.now) (g.W.Write.contents c.print_line.new.writer) (import_told answer.body ++ 10 ∷ []) = search rules in
    let kept : g.A.Asks.follows [] c.ask.new.self c.keep.new.self = search rules in
    (asked, g.A.Asks.joined (asked ∷ []) [] c.args.asks.now c.ask.new.self c.keep.new.self first kept, (refl, refl), sym accepted, rw accepted told)
