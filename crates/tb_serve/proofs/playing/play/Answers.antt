use Rattle.std.proofs.Common.{◌≡◌, true, ◌+◌, ◌<◌, ◌≤◌, ◌∷◌, [], List, ℕ, Option, length, take, drop, arith, ap, refl, ◌∙◌, subst}
use Rattle.std.proofs.lemmas.List.{take_all}
use Rattle.tb_calls.specs.Call.{State}
use Rattle.tb_calls.specs.Leaving.{Only}
use Rattle.tb_serve.specs.Server.{IsStopped, Plays, done_at, talk_at}
use Rattle.tb_serve.proofs.Steps.{done_more, done_split, on_err, plays_none, plays_stopped, plays_then}
use Rattle.tb_serve.specs.Turns.{Happening}
use Rattle.tb_serve.proofs.playing.play.Goals as goal

pub returns-in_err-play_one-clause-stopped : goal.returns-in_err-play_one-clause-stopped
returns-in_err-play_one-clause-stopped g c y s held only =
    let i = c.loop-entry.invariant in
    let n = c.loop-entry.entry-index in
    let hs = c.args.happenings.now in
    let count = length c.args.peers.now in
    let item = c.entry-item.result in
    let within : n < length hs = omega arith in
    let now = g.K.Keep.holds c.loop-entry.desk in
    let stops = g.K.Keep.after_stop c.loop-entry.desk in
    let next = g.K.Keep.holds c.play_one.new.desk in
    let next_stops = g.K.Keep.after_stop c.play_one.new.desk in
    let talks = talk_at c.args.peers.now in
    let middle = talk_at c.loop-entry.peers in
    let later = talk_at c.play_one.new.peers in
    let last : (t : State) → now t → Only t stops → IsStopped c.args.paths.now.site t (done_at count (item ∷ [])) middle later next next_stops =
    λ t h o. subst (λ (k : ℕ). IsStopped c.args.paths.now.site t (done_at k (item ∷ [])) middle later next next_stops) i.count (c.in_err-play_one.ensures.stopped y t h o) in
    let all : IsStopped c.args.paths.now.site s (done_at count hs) talks later next next_stops =
    subst (λ (done : List (ℕ × Happening (Option ℕ))). IsStopped c.args.paths.now.site s done talks later next next_stops) (done_split count hs n item within c.entry-item.is)
    (plays_stopped c.args.paths.now.site s (done_at count (take n hs)) (done_at count (item ∷ [])) (done_at count (drop (n + 1) hs)) talks middle later now stops next next_stops
    (i.plays (c.in_err-play_one.ensures.honest y) s held only) last) in
    on_err c.from_residual.result _ all

pub loop-entry-preserved : goal.loop-entry-preserved
loop-entry-preserved g c =
    let i = c.loop-entry.invariant in
    let n = c.loop-entry.entry-index in
    let hs = c.args.happenings.now in
    let count = length c.args.peers.now in
    let item = c.entry-item.result in
    let within : n < length hs = omega arith in
    let now = g.K.Keep.holds c.loop-entry.desk in
    let stops = g.K.Keep.after_stop c.loop-entry.desk in
    let next = g.K.Keep.holds c.play_one.new.desk in
    let next_stops = g.K.Keep.after_stop c.play_one.new.desk in
    let talks = talk_at c.args.peers.now in
    let middle = talk_at c.loop-entry.peers in
    let later = talk_at c.play_one.new.peers in
    let one : g.K.Keep.is_honest c.play_one.new.desk ≡ true → (t : State) → now t → Only t stops → Plays c.args.paths.now.site t (done_at count (item ∷ [])) middle later next next_stops =
    λ y t h o. subst (λ (k : ℕ). Plays c.args.paths.now.site t (done_at k (item ∷ [])) middle later next next_stops) i.count (c.in_ok-play_one.ensures.plays y t h o) in
    record {
      count = c.in_ok-play_one.ensures.count ∙ i.count;
      honest = λ y. i.honest (c.in_ok-play_one.ensures.honest y);
      plays = λ y s held only.
          subst (λ (done : List (ℕ × Happening (Option ℕ))). Plays c.args.paths.now.site s done talks later next next_stops) (done_more count hs n item within c.entry-item.is)
          (plays_then c.args.paths.now.site s (done_at count (take n hs)) (done_at count (item ∷ [])) talks middle later now stops next next_stops (i.plays (c.in_ok-play_one.ensures.honest y) s held only) (one y));
    }

pub loop-entry-init : goal.loop-entry-init
loop-entry-init g c = record {
  count = refl;
  honest = λ y. y;
  plays = λ y s held only.
      plays_none c.args.paths.now.site s (talk_at c.args.peers.now) (g.K.Keep.holds c.args.desk.now) (g.K.Keep.after_stop c.args.desk.now) held only;
}

pub returns-clause-plays : goal.returns-clause-plays
returns-clause-plays g c y s held only =
    let n = c.loop-entry.entry-index in
    let hs = c.args.happenings.now in
    let count = length c.args.peers.now in
    let past : length hs ≤ n = omega arith in
    subst (λ (done : List (ℕ × Happening (Option ℕ))).
    Plays c.args.paths.now.site s done (talk_at c.args.peers.now) (talk_at c.loop-entry.peers) (g.K.Keep.holds c.loop-entry.desk) (g.K.Keep.after_stop c.loop-entry.desk))
    (ap (done_at count) (take_all n hs past)) (c.loop-entry.invariant.plays y s held only)
