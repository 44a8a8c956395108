use Rattle.std.proofs.Common.{rules, ◌≡◌, ◌≤◌, ◌<◌, ◌*◌, min, [], ◌∷◌, Err, arith}
use Rattle.tb_client.specs.declared.asking.AskFault.TheVariants.{Memory}
use Rattle.tb_client.specs.Asking.{late, waited}
use Rattle.tb_client.proofs.Tries.{Tried, answered, given_up, turned, unread}
use Rattle.tb_client.proofs.asking.ask_until_answered.Goals as goal

pub returns-in_err-reply : goal.returns-in_err-reply
returns-in_err-reply g c =
    let is : c.from_residual.result ≡ Err Memory = search rules in
    let few : c.turns.tries < 1000000 = search rules in
    let came = c.in_err-reply.ensures.memory in
    rw is (unread g.L.Line.follows g.L.Line.joined c.args.message.now c.turns.tries c.turns.pause c.args.line.now c.turns.line c.ask_once.new.line
    c.turns.invariant few came.0 came.1)

pub returns-in-Some : goal.returns-in-Some
returns-in-Some g c =
    let found = rw c.in-Some.is at c.in_ok-reply.ensures.answer in
    let few : c.turns.tries < 1000000 = search rules in
    answered g.L.Line.follows g.L.Line.joined c.args.message.now c.turns.tries c.turns.pause c.args.line.now c.turns.line c.ask_once.new.line c.in-Some.reply
    c.turns.invariant few found.0 found.1 found.2 found.3

pub returns-then-not-pause : goal.returns-then-not-pause
returns-then-not-pause g c =
    let tried : Tried g.L.Line.follows c.args.message.now c.turns.line c.ask_once.new.line = search rules in
    let few : c.turns.tries < 1000000 = search rules in
    let gone : g.L.Line.follows (late ∷ []) c.ask_once.new.line c.pause.new.self = search rules in
    given_up g.L.Line.follows g.L.Line.joined c.args.message.now c.turns.tries c.turns.pause c.args.line.now c.turns.line c.ask_once.new.line c.pause.new.self
    c.turns.invariant few tried gone

pub turns-preserved : goal.turns-preserved
turns-preserved g c =
    let tried : Tried g.L.Line.follows c.args.message.now c.turns.line c.ask_once.new.line = search rules in
    let few : c.turns.tries < 1000000 = search rules in
    let passed : g.L.Line.follows (waited c.turns.pause ∷ []) c.ask_once.new.line c.pause.new.self = search rules in
    let next : c.min-pause.result ≡ min 5000 (c.turns.pause * 2) = search rules in
    let short : min 5000 (c.turns.pause * 2) ≤ 5000 = omega arith in
    rw next (turned g.L.Line.follows g.L.Line.joined c.args.message.now c.turns.tries c.turns.pause c.args.line.now c.turns.line c.ask_once.new.line
    c.pause.new.self c.turns.invariant few tried passed short)
