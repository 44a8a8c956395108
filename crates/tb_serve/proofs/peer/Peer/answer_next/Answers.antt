use Rattle.std.proofs.Common.{◌≡◌, ◌+◌, List, ℕ, Result, true, false, drop, ap, refl, sym, ◌∙◌, subst}
use Rattle.tb_serve.specs.Exchanging.{takes_no_more}
use Rattle.tb_serve.specs.Following.{Follows, has_stopped}
use Rattle.tb_serve.proofs.Exchanges.{Answers, Refused, answer_happens, rests_closed, rests_waiting, talk_is, talk_of}
use Rattle.tb_serve.proofs.Following.{same_desk, unchanged}
use Rattle.tb_http.specs.Inbox.{Held, IsUnfinished}
use Rattle.tb_serve.specs.Serving.{reads_one}
use Rattle.tb_serve.specs.declared.serving.ServeFault.{ServeFault}
use Rattle.tb_serve.specs.Turns.{Talk}
use Rattle.tb_serve.proofs.peer.Peer.answer_next.Goals as goal

pub returns-then-self-clause-happens : goal.returns-then-self-clause-happens
returns-then-self-clause-happens g c y s held only =
    rests_closed c.args.paths.now.site s c.args.at c.args.self.now (g.K.Keep.holds c.args.desk.now) (g.K.Keep.after_stop c.args.desk.now)
    (subst (λ (t : Talk). t.is_closing ≡ true) c.self.view_is c.if-self.true) held only

pub returns-clause-happens : goal.returns-clause-happens
returns-clause-happens g c y s held only =
    let inside = c.self.inside in
    let inbox = c.answer_whole.new.inbox in
    let out = c.answer_whole.new.out.items in
    let turn = c.in-Some.exchange.turn in
    let is_whole = c.in-Some.exchange.is_whole in
    let now = g.K.Keep.holds c.answer_whole.new.desk in
    let stops = g.K.Keep.after_stop c.answer_whole.new.desk in
    let old : List ℕ → Talk = λ o. record { bytes = inside.inbox.bytes; messages = inside.inbox.messages; is_closing = inside.is_closing; out = o } in
    let first : Answers c.args.paths.now.site s c.args.at (old (drop inside.sent inside.out.items)) inbox.bytes inbox.is_closing out turn is_whole now stops =
    subst (λ (o : List ℕ). Answers c.args.paths.now.site s c.args.at (old o) inbox.bytes inbox.is_closing out turn is_whole now stops) c.drop_front.ensures
    (c.in-Some.ensures.answers y s held only) in
    answer_happens c.args.paths.now.site s c.args.at c.args.self.now inbox.bytes inbox.messages inbox.is_closing out turn is_whole now stops
    c.takes_no_more-self-inside.result c.outcome.result
    (subst (λ (t : Talk). t.is_closing ≡ false) c.self.view_is c.if-self.false)
    (subst (λ (t : Talk). Answers c.args.paths.now.site s c.args.at t inbox.bytes inbox.is_closing out turn is_whole now stops) c.self.view_is first)
    (subst (λ (t : Talk). Refused t turn inbox.bytes inbox.is_closing) c.self.view_is c.in-Some.ensures.refused)
    (subst (λ (t : Talk). inbox.messages ≡ t.messages + reads_one turn) c.self.view_is c.in-Some.ensures.counted)
    (c.takes_no_more-self-inside.ensures ∙ ap (λ b. takes_no_more b turn is_whole) c.closing.ensures)
    c.outcome.ensures

pub returns-in_default-clause-happens : goal.returns-in_default-clause-happens
returns-in_default-clause-happens g c y s held only =
    let inside = c.self.inside in
    let inbox = c.answer_whole.new.inbox in
    let out = c.answer_whole.new.out.items in
    let waits = c.in_default.ensures.waits in
    let same : talk_of inbox.bytes inbox.messages inside.is_closing out
    ≡ talk_of inside.inbox.bytes inside.inbox.messages inside.is_closing (drop inside.sent inside.out.items) =
    talk_is inbox.bytes inside.inbox.bytes inbox.messages inside.inbox.messages inside.is_closing inside.is_closing out (drop inside.sent inside.out.items)
    (ap (λ (h : Held). h.bytes) waits.1) (ap (λ (h : Held). h.messages) waits.1) refl (waits.2 ∙ c.drop_front.ensures) in
    rests_waiting c.args.paths.now.site g.K.Keep.holds g.K.Keep.after_stop s c.args.at c.args.self.now (talk_of inbox.bytes inbox.messages inside.is_closing out)
    c.args.desk.now c.answer_whole.new.desk (subst (λ (t : Talk). IsUnfinished t.bytes) c.self.view_is waits.0) (same ∙ c.self.view_is) waits.3 held only

pub returns-then-self-clause-follows : goal.returns-then-self-clause-follows
returns-then-self-clause-follows g c = unchanged (g.K.Keep.holds c.args.desk.now) (g.K.Keep.after_stop c.args.desk.now)

pub returns-clause-follows : goal.returns-clause-follows
returns-clause-follows g c =
    subst (λ (r : Result (Unit {0}) ServeFault).
    Follows (has_stopped r) (g.K.Keep.holds c.args.desk.now) (g.K.Keep.after_stop c.args.desk.now)
    (g.K.Keep.holds c.answer_whole.new.desk) (g.K.Keep.after_stop c.answer_whole.new.desk))
    (sym c.outcome.ensures) c.in-Some.ensures.follows

pub returns-in_default-clause-follows : goal.returns-in_default-clause-follows
returns-in_default-clause-follows g c =
    same_desk g.K.Keep.holds g.K.Keep.after_stop c.args.desk.now c.answer_whole.new.desk c.in_default.ensures.waits.3
