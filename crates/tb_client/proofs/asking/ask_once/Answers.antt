use Rattle.std.proofs.Common.{rules, ◌≡◌, [], ◌∷◌, true}
use Rattle.tb_client.specs.declared.answer.Reply.{Reply}
use Rattle.tb_client.specs.Answer.{IsWholeAnswer, asks_again}
use Rattle.tb_client.specs.Asking.{asked}
use Rattle.tb_client.proofs.Tries.{tried_again, tried_none}
use Rattle.tb_client.proofs.asking.ask_once.Goals as goal

pub returns-in_default-2-clause-none : goal.returns-in_default-2-clause-none
returns-in_default-2-clause-none g c =
    let none : (reply : Reply) → IsWholeAnswer c.as_slice.result.now reply → ⊥ = rw c.in_default-2.is at c.in_ok-reply.ensures.none in
    let same : c.as_slice.result.now ≡ c.in-Some.came = search rules in
    let follow : g.L.Line.follows (asked c.args.message.now c.in-Some.came ∷ []) c.args.line.now c.ask.new.self = search rules in
    tried_none g.L.Line.follows c.args.message.now c.in-Some.came c.args.line.now c.ask.new.self (rw same at none) follow

pub returns-then-asks_again-clause-none : goal.returns-then-asks_again-clause-none
returns-then-asks_again-clause-none g c =
    let whole : IsWholeAnswer c.in-Some.came c.in-Some-2.reply = search rules in
    let again : asks_again c.in-Some-2.reply.status ≡ true = search rules in
    let follow : g.L.Line.follows (asked c.args.message.now c.in-Some.came ∷ []) c.args.line.now c.ask.new.self = search rules in
    tried_again g.L.Line.follows c.args.message.now c.in-Some.came c.args.line.now c.ask.new.self c.in-Some-2.reply whole again follow
