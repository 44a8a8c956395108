-- Runs over files, one after the other, are sessions in a row.
use Rattle.std.proofs.Common.{◌≡◌, List, [], ◌∷◌, refl, sym, subst}
use Rattle.std.proofs.Math.Logic.{∥∥₁_elim, ∥∥₁_map}
use Rattle.sqlite_wal.specs.Recovery.{Image}
use Rattle.tb_calls.specs.Call.{State}
use Rattle.tb_calls.specs.declared.reply.Reply.{Reply}
use Rattle.tb_core.specs.GoodWorld.{IsGoodWorld}
use Rattle.tb_desk.specs.Sessions.{Sent}
use Rattle.tb_headline.specs.Files.{AreOfRuns, AreSentIn, EndAsUnstopped, HeadlineOfFiles, HoldsState, RunInTurn, ServeAll, ServerRun}
use Rattle.tb_headline.specs.Headline.{Service, ServeInTurn, calls_handled, replies_among, service_of}
use Rattle.tb_headline.proofs.InTurn.{headline_of_connections, stops_join}
use Rattle.tb_serve.specs.Telling.{after}
use Rattle.tb_serve.specs.Turns.{handled}

-- what such runs lead to, and that the last bytes hold it
abbrev LeadsTo : State → List ServerRun → Image → Type 0
LeadsTo s runs last = (t : State) × HoldsState t last × ServeAll s runs t

serve_all : (s : State) (start last : Image) (runs : List ServerRun) → HoldsState s start → RunInTurn start runs last → ∥ LeadsTo s runs last ∥₁
serve_all s start last [] held is = ∣ (s, subst (λ (image : Image). HoldsState s image) (sym is) held, refl) ∣₁
serve_all s start last (x ∷ xs) held (next, runs, rest) =
    ∥∥₁_elim (runs s held) squash₁ (λ found.
    ∥∥₁_map (serve_all found.1 next last xs found.2 rest) (λ more.
    let r : LeadsTo s (x ∷ xs) last = (more.0, more.1, (found.0, found.1, found.3, more.2)) in r))

-- the runs as sessions whose calls are sent so
abbrev AreSessions : State → List ServerRun → State → Type 0
AreSessions s runs t = (sessions : List Service) × (replies : List (List Reply)) × AreOfRuns runs sessions × ServeInTurn s sessions replies t

sessions : (s : State) (runs : List ServerRun) (t : State) (on : ServeAll s runs t) (sent : List (List Sent)) → AreSentIn s runs t on sent → AreSessions s runs t
sessions s [] t on [] are = ([], [], tt, on)
sessions s [] t on (first ∷ sent) are = absurd are
sessions s (x ∷ xs) t on [] are = absurd are
sessions s (x ∷ xs) t (is, mid, left, on) (first ∷ sent) (same, are) =
    let joined = stops_join x.site s (after s (calls_handled is.steps)) mid x.talks is.middle is.steps is.begun first is.run left same in
    let later = sessions mid xs t on sent are in (
      service_of x.site x.talks is.steps is.middle first joined.0 ∷ later.0,
      replies_among s (handled is.steps) ∷ later.1,
      (refl, refl, later.2),
      (joined.1, subst (λ (u : State). ServeInTurn u later.0 later.1 t) joined.2 later.3),
    )

ends : (s : State) (runs : List ServerRun) (t : State) → IsGoodWorld s.world → AreSessions s runs t → EndAsUnstopped s runs t
ends s runs t good (services, replies, are, serve) = record {
  sessions = services;
  replies = replies;
  are = are;
  serve = serve;
  headline = λ calls sends known. headline_of_connections s calls services replies t good sends known serve;
}

-- what is said of what they lead to
abbrev EndsWell : State → List ServerRun → Image → Type 0
EndsWell s runs last = (t : State) × HoldsState t last × (on : ServeAll s runs t)
    × ((sent : List (List Sent)) → AreSentIn s runs t on sent → EndAsUnstopped s runs t)

pub headline_of_files : HeadlineOfFiles
headline_of_files s start last runs good held turns =
    ∥∥₁_map (serve_all s start last runs held turns) (λ led.
    let r : EndsWell s runs last = (led.0, led.1, led.2, λ sent are. ends s runs led.0 good (sessions s runs led.0 led.2 sent are)) in r)
