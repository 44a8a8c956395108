use Rattle.std.proofs.Common.{◌≡◌, ◌∙◌, ◌∷◌, ◌++◌, [], ◌<◌, length, ap, refl, arith, rules}
use Rattle.tb_my.proofs.Loops.{one_more}
use Rattle.tb_my.specs.Sent.{note_sent, notes_of}
use Rattle.tb_my.proofs.sent.notes_of.Goals as goal

pub loop-task-preserved : goal.loop-task-preserved
loop-task-preserved c =
    let name = c.args.name.now in
    let verb = c.args.verb.now in
    let board = c.args.board.now in
    let named = c.args.named.now in
    let note = c.args.note.now in
    let task = c.task-item.result in
    let within : c.loop-task.task-index < length named = omega arith in
    let call : c.in_ok-sent.sent ≡ note_sent name verb board task note = search rules in
    let put : c.push.new.self ≡ c.loop-task.all ++ c.in_ok-sent.sent ∷ [] = search rules in
    one_more (λ tasks. notes_of name verb board tasks note) named c.loop-task.task-index task (note_sent name verb board task note ∷ []) c.loop-task.all
    c.push.new.self (notes_of name verb board named note) within c.task-item.is refl (put ∙ ap (λ sent. c.loop-task.all ++ sent ∷ []) call)
    c.loop-task.invariant
