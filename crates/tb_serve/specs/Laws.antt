-- What is true of the connections of a server, whatever is done to them.
use Rattle.std.specs.Prelude.{◌≡◌, ℕ, List, [], ◌∷◌, Option}
use Rattle.tb_calls.specs.Call.{State}
use Rattle.tb_http.specs.Stream.{Received}
use Rattle.tb_serve.specs.Server.{Timed, calls_among, server}
use Rattle.tb_serve.specs.Serving.{answers}
use Rattle.tb_serve.specs.Telling.{after}
use Rattle.tb_serve.specs.Turns.{Run, Step, Talk, AllAt, AllWell, EachServed, handled, taken_on, told_on}
use Rattle.tb_site.specs.declared.site.Site.{Site}

-- Whatever turns connections take: the state is the one that all their calls lead to, each acting once, in the order in
-- which they were handled. The messages of each connection are those that its bytes bring, none behind one that closes
-- it. Each is answered as in the state that all calls before it, of whatever connection, led to; and what a connection
-- was handed is a front of its answers, in their order. All this is said of each connection, from where it is opened on,
-- up to anywhere before another is opened in its place.
-- Rule: answers go in the order of a connection's messages. Tried by two_messages.
abbrev pub AnyTurns : Type 0
AnyTurns =
    (site : Site) (s : State) (talks : ℕ → Talk) (ks : List (Step (Option ℕ) Timed)) (end : State)
    (later : ℕ → Talk)
    → Run (server site) s talks ks end later
    → (end ≡ after s (calls_among (handled ks)))
    × EachServed (server site) s talks ks later

abbrev pub moments_of : List Timed → List (Option ℕ)
moments_of [] = []
moments_of (m ∷ ms) = m.at ∷ moments_of ms

abbrev pub received_of : List Timed → List Received
received_of [] = []
received_of (m ∷ ms) = m.received ∷ received_of ms

-- where all is of one connection, and goes well, it is told what one that is served alone is told
abbrev pub OneAlone : Type 0
OneAlone =
    (site : Site) (c : ℕ) (s : State) (before : ℕ) (ks : List (Step (Option ℕ) Timed)) → AllAt c ks
    → AllWell ks
    → told_on (server site) c s before ks
    ≡ answers site s (moments_of (taken_on c ks)) before (received_of (taken_on c ks))
