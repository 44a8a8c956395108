-- What a run of the connections says of the desk, and of each connection.
use Rattle.std.proofs.Common.{ℕ, Bool, List, Option, subst}
use Rattle.tb_calls.specs.Call.{State}
use Rattle.tb_serve.specs.Server.{talk_at}
use Rattle.tb_serve.proofs.TakingTurns.{any_turns}
use Rattle.tb_serve.specs.Telling.{StandsAt}
use Rattle.tb_server.specs.Laws.{MakesTurns}
use Rattle.tb_serve.specs.Turns.{Talk}
use Rattle.tb_site.specs.declared.site.Site.{Site}

pub makes_turns : {T : Type 0} (gives : List (Option ℕ) → T → T → Type 0) (clock later_clock : T) (site kept : Site) (talks later : List Talk) (was_honest is_honest : Bool) (old old_stops now stops : State → Type 0)
    → MakesTurns gives clock later_clock site kept talks later was_honest is_honest old old_stops now stops
makes_turns gives clock later_clock site kept talks later was_honest is_honest old old_stops now stops history serves honest s held only =
    let run = serves.run honest s held only in
    let turns = any_turns site s (talk_at talks) run.0 run.1 (talk_at later) run.3 in
    (run.0, run.2, subst (λ (t : State). StandsAt t now stops) turns.0 run.4, turns.1)
