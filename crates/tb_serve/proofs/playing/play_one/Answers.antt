use Rattle.std.proofs.Common.{◌<◌, ◌≤◌, length, true, false, arith, sym, ◌∙◌}
use Rattle.tb_serve.specs.Server.{talk_at}
use Rattle.tb_serve.proofs.Steps.{entry_passed, entry_plays}
use Rattle.tb_serve.proofs.playing.play_one.Goals as goal

pub returns-then-stops_all-clause-stopped : goal.returns-then-stops_all-clause-stopped
returns-then-stops_all-clause-stopped g c y s held only =
    let within : c.args.entry.now.0 < length c.args.peers.now = omega (arith, c.if-place-peers.false) in
    entry_plays c.args.paths.now.site c.happen-outcome.result true s (length c.args.peers.now) c.args.entry.now.0 c.args.entry.now.1
    (talk_at c.args.peers.now) (talk_at c.happen-outcome.new.peers)
    (g.K.Keep.holds c.happen-outcome.new.desk) (g.K.Keep.after_stop c.happen-outcome.new.desk)
    within (sym c.stops_all.ensures ∙ c.if-stops_all.true) (c.happen-outcome.ensures.happens y s held only)

pub returns-clause-plays : goal.returns-clause-plays
returns-clause-plays g c y s held only =
    let within : c.args.entry.now.0 < length c.args.peers.now = omega (arith, c.if-place-peers.false) in
    entry_plays c.args.paths.now.site c.happen-outcome.result false s (length c.args.peers.now) c.args.entry.now.0 c.args.entry.now.1
    (talk_at c.args.peers.now) (talk_at c.happen-outcome.new.peers)
    (g.K.Keep.holds c.happen-outcome.new.desk) (g.K.Keep.after_stop c.happen-outcome.new.desk)
    within (sym c.stops_all.ensures ∙ c.if-stops_all.false) (c.happen-outcome.ensures.happens y s held only)

pub returns-then-place-peers-clause-plays : goal.returns-then-place-peers-clause-plays
returns-then-place-peers-clause-plays g c y s held only =
    let past : length c.args.peers.now ≤ c.args.entry.now.0 = omega (arith, c.if-place-peers.true) in
    entry_passed c.args.paths.now.site s (length c.args.peers.now) c.args.entry.now.0 c.args.entry.now.1 (talk_at c.args.peers.now)
    (g.K.Keep.holds c.args.desk.now) (g.K.Keep.after_stop c.args.desk.now) past held only
