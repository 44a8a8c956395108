-- What follows for the boards and for each connection.
use Rattle.std.specs.Prelude.{◌≡◌, ℕ, Bool, false, true, List, Option, length}
use Rattle.tb_calls.specs.Call.{State}
use Rattle.tb_calls.specs.Leaving.{Only}
use Rattle.tb_event_loop.specs.Done.{Done}
use Rattle.tb_serve.specs.Server.{talk_at, Timed, calls_among, server}
use Rattle.tb_serve.specs.Telling.{StandsAt, after}
use Rattle.tb_server.specs.Serves.{Serves, at_places}
use Rattle.tb_serve.specs.Turns.{EachServed, handled, Step, Talk, done_in}
use Rattle.tb_site.specs.declared.site.Site.{Site}

-- Whatever was done to the connections of a server whose store didn't fail, and was honest to the end: steps came of
-- just that, in its order, and the desk stands where the calls of the messages lead that were handled in them, each
-- acting once. The messages of each connection, from where it is opened on, are those that its bytes bring, and what it
-- was handed is a front of what these are told, up to anywhere before another is opened in its place.
abbrev pub MakesTurns : {T : Type 0} → (List (Option ℕ) → T → T → Type 0) → T → T → Site → Site
    → List Talk → List Talk → Bool → Bool → (State → Type 0) → (State → Type 0) → (State → Type 0) → (State → Type 0) → Type 0
MakesTurns gives clock later_clock site kept talks later was_honest is_honest old old_stops now stops =
    (history : List (ℕ × Done))
    (serves : Serves gives clock later_clock site kept false history talks later was_honest is_honest
    old old_stops now stops)
    → is_honest ≡ true → (s : State) → old s → Only s old_stops
    → (ks : List (Step (Option ℕ) Timed)) × (done_in ks ≡ at_places (length talks) serves.timed)
    × StandsAt (after s (calls_among (handled ks))) now stops
    × EachServed (server site) s (talk_at talks) ks (talk_at later)
