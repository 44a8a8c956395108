use Rattle.std.proofs.Common.{rules, ◌≡◌, true, false, [], ◌∷◌, drop, take, refl, subst, sym, arith}
use Rattle.std.proofs.lemmas.Grind.{common_steps}
use Rattle.std.proofs.lemmas.List.{take_all, take-append-drop}
use Rattle.tb_sending.specs.Wires.{opened, seconds_left, sent}
use Rattle.tb_sending.proofs.Wires.{leads_asked, leads_cut, leads_refused}
use Rattle.tb_sending.proofs.server_line.ServerLineLine.ask.Goals as goal

pub returns-then-not-open-clause-front : goal.returns-then-not-open-clause-front
returns-then-not-open-clause-front g c =
    let gone = c.passed-passed.result in
    let opens : g.D.Dial.follows (opened c.args.self.now.server (seconds_left c.args.self.now.seconds gone) false ∷ []) c.passed-passed.new.self c.open.new.self =
    search rules in (
      [],
      (c.args.message.now, refl),
      leads_refused g.D.Dial.follows g.D.Dial.joined c.args.self.now.server c.args.self.now.seconds gone
          c.args.self.now.dial c.passed-passed.new.self c.open.new.self c.passed-passed.ensures opens,
    )

pub returns-then-send-message-clause-front : goal.returns-then-send-message-clause-front
returns-then-send-message-clause-front g c =
    let gone = c.passed-passed.result in
    let count = c.send.result in
    let opens : g.D.Dial.follows (opened c.args.self.now.server (seconds_left c.args.self.now.seconds gone) true ∷ []) c.passed-passed.new.self c.open.new.self =
    search rules in (
      take count c.args.message.now,
      (drop count c.args.message.now, sym (take-append-drop count c.args.message.now)),
      leads_cut g.D.Dial.follows g.D.Dial.joined c.args.self.now.server c.args.self.now.seconds gone (take count c.args.message.now)
          c.args.self.now.dial c.passed-passed.new.self c.open.new.self c.send.new.self c.passed-passed.ensures opens c.send.ensures.sent,
    )

pub returns-clause-whole : goal.returns-clause-whole
returns-clause-whole g c =
    let gone = c.passed-passed.result in
    let opens : g.D.Dial.follows (opened c.args.self.now.server (seconds_left c.args.self.now.seconds gone) true ∷ []) c.passed-passed.new.self c.open.new.self =
    search rules in
    let all : take c.send.result c.args.message.now ≡ c.args.message.now = take_all c.send.result c.args.message.now (grind (arith, common_steps)) in
    let sends : g.D.Dial.follows (sent c.args.message.now ∷ []) c.open.new.self c.send.new.self =
    subst (λ bytes. g.D.Dial.follows (sent bytes ∷ []) c.open.new.self c.send.new.self) all c.send.ensures.sent in
    leads_asked g.D.Dial.follows g.D.Dial.joined c.args.self.now.server c.args.self.now.seconds gone c.args.message.now c.receive-came.result
    c.args.self.now.dial c.passed-passed.new.self c.open.new.self c.send.new.self c.receive-came.new.self c.passed-passed.ensures opens sends c.receive-came.ensures
