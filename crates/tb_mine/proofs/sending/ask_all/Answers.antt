use Rattle.std.proofs.Common.{rules, arith, ◌≡◌, ◌<◌, ◌&&◌, length}
use Rattle.tb_mine.proofs.Following.{going_on}
use Rattle.tb_mine.specs.Printed.{printed_of}
use Rattle.tb_mine.proofs.sending.ask_all.Goals.{then-is_accepted, else-is_accepted}
use Rattle.tb_mine.proofs.sending.ask_all.Goals as goal

pub loop-sent-preserved : goal.loop-sent-preserved
loop-sent-preserved g c =
    let contents = g.W.Write.contents in
    let all = c.args.all.now in
    let is = c.in_ok-is_accepted.is_accepted in
    let within : c.loop-sent.sent-index < length all = omega arith in
    let next : c.if-is_accepted.are_accepted ≡ (is && c.loop-sent.are_accepted) = elim c.if-is_accepted.branch [
      | then-is_accepted w ↦ search rules
      | else-is_accepted w ↦ search rules
    ] in
    rw next (going_on g.A.Asks.follows g.A.Asks.joined (printed_of c.args.context.now.clock c.args.tasks.now) all c.loop-sent.sent-index c.sent-item.result c.loop-sent.are_accepted is
    (contents c.args.writer.now) (contents c.loop-sent.writer) (contents c.ask_one.new.writer) c.args.asks.now c.loop-sent.asks c.ask_one.new.asks within c.sent-item.is
    c.loop-sent.invariant c.in_ok-is_accepted.ensures.asked)
