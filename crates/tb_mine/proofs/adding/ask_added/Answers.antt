use Rattle.std.proofs.Common.{rules, ◌≡◌, ◌∷◌, ◌++◌, [], true}
use Rattle.std.specs.Io.KnownBytes.{Appends}
use Rattle.tb_my.specs.Telling.{added_text}
use Rattle.tb_mine.proofs.Numbered.{numbered_add}
use Rattle.tb_mine.specs.Asked.{Asked, IsLookAt, asked_of, number_in}
use Rattle.tb_mine.proofs.adding.ask_added.Goals as goal

pub returns-in-Ok-clause-asked : goal.returns-in-Ok-clause-asked
returns-in-Ok-clause-asked g c =
    let follows = g.A.Asks.follows in
    let contents = g.W.Write.contents in
    let joined = g.A.Asks.joined in
    let context = c.args.context.now in
    let sent = c.args.sent.now in
    let id = c.args.id in
    let answer = c.in_ok-answer.answer in
    let export = c.in-Ok.export in
    let start = c.args.asks.now in
    let accepted : answer.is_accepted ≡ true = search rules in
    let asked : Asked = asked_of sent.words sent.call answer in
    let first : follows (asked ∷ []) start c.ask.new.self = search rules in
    let kept : follows [] c.ask.new.self c.keep.new.self = search rules in
    let look : (look : Asked) × follows (look ∷ []) c.keep.new.self c.look_at.new.asks × IsLookAt context.board look export = search rules in
    let told : Appends (contents c.args.writer.now) (contents c.tell_number.new.writer) (added_text sent.told (number_in id export) ++ 10 ∷ []) = search rules in (
      asked ∷ look.0 ∷ [],
      joined (asked ∷ []) (look.0 ∷ []) start c.keep.new.self c.look_at.new.asks
          (joined (asked ∷ []) [] start c.ask.new.self c.keep.new.self first kept) look.1,
      numbered_add context sent id answer look.0 export (contents c.args.writer.now) (contents c.tell_number.new.writer) accepted look.2 told,
    )
