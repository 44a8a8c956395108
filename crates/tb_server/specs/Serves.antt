-- What a server makes of all that was done to its connections.
use Rattle.std.specs.Prelude.{◌≡◌, ℕ, ◌==◌, Bool, true, false, List, [], ◌∷◌, ◌++◌, Option, filter, length, nat_lt}
use Rattle.tb_calls.specs.Call.{State}
use Rattle.tb_calls.specs.Leaving.{Only}
use Rattle.tb_event_loop.specs.Done as done
use Rattle.tb_event_loop.specs.Done.{Done}
use Rattle.tb_serve.specs.Following.{Follows}
use Rattle.tb_serve.specs.Server.{Plays, Stops, talk_at, Timed, server}
use Rattle.tb_serve.specs.Turns.{Happening, Run, Step, Talk, done_in, opens, comes, turns, goes}
use Rattle.tb_site.specs.declared.site.Site.{Site}

-- what was done, with a moment where it was a turn
abbrev pub IsTimed : Done → Happening (Option ℕ) → Type 0
IsTimed done.opened timed = timed ≡ opens
IsTimed (done.came piece) timed = timed ≡ comes piece
IsTimed done.turned timed = (at : Option ℕ) × (timed ≡ turns at)
IsTimed (done.went count) timed = timed ≡ goes count

-- one for one, at the same places
abbrev pub AreTimed : List (ℕ × Done) → List (ℕ × Happening (Option ℕ)) → Type 0
AreTimed [] [] = Unit {0}
AreTimed [] (one ∷ timed) = ⊥
AreTimed (one ∷ history) [] = ⊥
AreTimed (one ∷ history) (other ∷ timed) = (other.0 ≡ one.0) × IsTimed one.1 other.1
    × AreTimed history timed

-- the moment that was asked for, where it was a turn
abbrev pub moment_of : Happening (Option ℕ) → List (Option ℕ)
moment_of (turns at) = at ∷ []
moment_of opens = []
moment_of (comes piece) = []
moment_of (goes count) = []

-- the moments of all turns, in their order
abbrev pub moments_of : List (ℕ × Happening (Option ℕ)) → List (Option ℕ)
moments_of [] = []
moments_of (one ∷ timed) = moment_of one.1 ++ moments_of timed

-- those at places that there are
abbrev pub at_places : ℕ → List (ℕ × Happening (Option ℕ)) → List (ℕ × Happening (Option ℕ))
at_places count timed = filter (λ one. nat_lt one.0 count) timed

-- The store failed on the last of what was done: a run was made of all before it, and its call may have acted.
pub record StopsAtLast (site : Site) (s : State) (timed : List (ℕ × Happening (Option ℕ)))
    (talks later : ℕ → Talk)
    (now stops : State → Type 0) : Type 0 where
  pub ks : List (Step (Option ℕ) Timed)
  pub end : State
  pub middle : ℕ → Talk
  pub place : ℕ
  pub last : Happening (Option ℕ)
  pub done_is : done_in ks ++ (place, last) ∷ [] ≡ timed
  pub run : Run (server site) s talks ks end middle
  pub stopped : Stops site end last (middle place) (later place) now stops
  pub others : (c : ℕ) → (place == c) ≡ false → later c ≡ middle c

-- A run of the connections is made of all that was done, and the desk stands at its end; or the store failed at last.
abbrev pub Makes : Site → Bool → State → List (ℕ × Happening (Option ℕ)) → (ℕ → Talk) → (ℕ → Talk)
    → (State → Type 0) → (State → Type 0) → Type 0
Makes site false s timed talks later now stops = Plays site s timed talks later now stops
Makes site true s timed talks later now stops = StopsAtLast site s timed talks later now stops

-- What was done to the connections of a server, one thing after the other, and what it made of them and of the desk:
-- nothing but this is done to any of them, and to what the desk holds. What connections are told is said of a store that
-- is honest to the end.
pub record Serves {T : Type 0} (gives : List (Option ℕ) → T → T → Type 0) (clock later_clock : T)
    (site kept : Site) (stopped : Bool) (history : List (ℕ × Done))
    (talks later : List Talk) (was_honest is_honest : Bool)
    (old old_stops now stops : State → Type 0) : Type 0 where
  -- the page stays
  pub page : kept ≡ site
  -- no place came or went
  pub places : length later ≡ length talks
  -- the desk stands where the calls lead that it handled
  pub calls : Follows stopped old old_stops now stops
  -- each turn came at the moment that the clock gave for it
  pub timed : List (ℕ × Happening (Option ℕ))
  pub fits : AreTimed history timed
  pub asked : gives (moments_of timed) clock later_clock
  pub honest : is_honest ≡ true → was_honest ≡ true
  -- These very bytes came, these turns were had, this much was sent. The calls are those of the messages that the bytes
  -- bring, by the law of any turns of `tb_serve`.
  pub run : is_honest ≡ true → (s : State) → old s → Only s old_stops
      → Makes site stopped s (at_places (length talks) timed) (talk_at talks)
      (talk_at later) now stops
