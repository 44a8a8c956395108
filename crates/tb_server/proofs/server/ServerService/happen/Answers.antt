use Rattle.std.proofs.Common.{rules, ◌≡◌, ◌<◌, ◌≤◌, List, [], ◌∷◌, length, true, false, arith, sym, ◌∙◌, subst}
use Rattle.tb_event_loop.specs.History.{done_of as done_to}
use Rattle.tb_serve.specs.Server.{done_of}
use Rattle.tb_server.proofs.Steps.{given_back, one_served, passed}
use Rattle.tb_server.specs.Serves.{Serves}
use Rattle.tb_serve.specs.Turns.{Talk}
use Rattle.tb_server.proofs.server.ServerService.happen.Goals as goal

pub returns-then-place-len-clause-after : goal.returns-then-place-len-clause-after
returns-then-place-len-clause-after g c =
    let past : length c.args.self.now.peers.items ≤ c.args.place = omega (arith, c.if-place-len.true) in
    passed g.C.Clock.gives c.args.self.now.clock c.at_moment-what.new.clock c.args.self.now.paths.site c.args.place (done_to c.args.happening.now) (done_of c.at_moment-what.result) c.args.self.now.peers.items
    (g.K.Keep.is_honest c.args.self.now.desk) (g.K.Keep.holds c.args.self.now.desk) (g.K.Keep.after_stop c.args.self.now.desk) past c.at_moment-what.ensures.timed c.at_moment-what.ensures.asked

pub returns-then-stops_all-clause-after : goal.returns-then-stops_all-clause-after
returns-then-stops_all-clause-after g c =
    let inside : c.args.place < length c.args.self.now.peers.items = omega (arith, c.if-place-len.false) in
    let places : length c.happen-outcome.new.peers ≡ length c.args.self.now.peers.items = search rules in
    let lent : c.deref_mut.result.now ≡ c.args.self.now.peers.items = search rules in
    let len : c.args.self.now.peers.len ≡ length c.args.self.now.peers.items = search rules in
    let back = given_back c.args.self.now.peers.len c.happen-outcome.new.peers c.args.self.now.peers.items places len in
    subst (λ (later : List Talk). Serves g.C.Clock.gives c.args.self.now.clock c.at_moment-what.new.clock c.args.self.now.paths.site c.args.self.now.paths.site true ((c.args.place, done_to c.args.happening.now) ∷ []) c.args.self.now.peers.items later
    (g.K.Keep.is_honest c.args.self.now.desk) (g.K.Keep.is_honest c.happen-outcome.new.desk)
    (g.K.Keep.holds c.args.self.now.desk) (g.K.Keep.after_stop c.args.self.now.desk)
    (g.K.Keep.holds c.happen-outcome.new.desk) (g.K.Keep.after_stop c.happen-outcome.new.desk)) (sym back)
    (one_served g.C.Clock.gives c.args.self.now.clock c.at_moment-what.new.clock c.args.self.now.paths.site c.happen-outcome.result true c.args.place (done_to c.args.happening.now) (done_of c.at_moment-what.result)
    c.args.self.now.peers.items c.deref_mut.result.now c.happen-outcome.new.peers
    (g.K.Keep.is_honest c.args.self.now.desk) (g.K.Keep.is_honest c.happen-outcome.new.desk)
    (g.K.Keep.holds c.args.self.now.desk) (g.K.Keep.after_stop c.args.self.now.desk)
    (g.K.Keep.holds c.happen-outcome.new.desk) (g.K.Keep.after_stop c.happen-outcome.new.desk)
    (sym c.stops_all.ensures ∙ c.if-stops_all.true) inside places lent c.at_moment-what.ensures.timed c.at_moment-what.ensures.asked
    c.happen-outcome.ensures.honest c.happen-outcome.ensures.happens c.happen-outcome.ensures.follows)

pub returns-clause-after : goal.returns-clause-after
returns-clause-after g c =
    let inside : c.args.place < length c.args.self.now.peers.items = omega (arith, c.if-place-len.false) in
    let places : length c.happen-outcome.new.peers ≡ length c.args.self.now.peers.items = search rules in
    let lent : c.deref_mut.result.now ≡ c.args.self.now.peers.items = search rules in
    let len : c.args.self.now.peers.len ≡ length c.args.self.now.peers.items = search rules in
    let back = given_back c.args.self.now.peers.len c.happen-outcome.new.peers c.args.self.now.peers.items places len in
    subst (λ (later : List Talk). Serves g.C.Clock.gives c.args.self.now.clock c.at_moment-what.new.clock c.args.self.now.paths.site c.args.self.now.paths.site false ((c.args.place, done_to c.args.happening.now) ∷ []) c.args.self.now.peers.items later
    (g.K.Keep.is_honest c.args.self.now.desk) (g.K.Keep.is_honest c.happen-outcome.new.desk)
    (g.K.Keep.holds c.args.self.now.desk) (g.K.Keep.after_stop c.args.self.now.desk)
    (g.K.Keep.holds c.happen-outcome.new.desk) (g.K.Keep.after_stop c.happen-outcome.new.desk)) (sym back)
    (one_served g.C.Clock.gives c.args.self.now.clock c.at_moment-what.new.clock c.args.self.now.paths.site c.happen-outcome.result false c.args.place (done_to c.args.happening.now) (done_of c.at_moment-what.result)
    c.args.self.now.peers.items c.deref_mut.result.now c.happen-outcome.new.peers
    (g.K.Keep.is_honest c.args.self.now.desk) (g.K.Keep.is_honest c.happen-outcome.new.desk)
    (g.K.Keep.holds c.args.self.now.desk) (g.K.Keep.after_stop c.args.self.now.desk)
    (g.K.Keep.holds c.happen-outcome.new.desk) (g.K.Keep.after_stop c.happen-outcome.new.desk)
    (sym c.stops_all.ensures ∙ c.if-stops_all.false) inside places lent c.at_moment-what.ensures.timed c.at_moment-what.ensures.asked
    c.happen-outcome.ensures.honest c.happen-outcome.ensures.happens c.happen-outcome.ensures.follows)
