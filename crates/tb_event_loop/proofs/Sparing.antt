-- What a change at one place leaves of the others.
use Rattle.std.proofs.Common.{◌≡◌, ℕ, inl, inr, zero, suc, Bool, true, false, List, [], ◌∷◌, Option, Some, None, unwrap_or, refl, sym, ap, ◌∙◌}
use Rattle.std.specs.Prelude.{◌⊎◌, ◌==◌, slice_get, slice_set}
use Rattle.std.proofs.lemmas.Bool.{eqb-false, false≢true, ne_eqb}
use Rattle.tb_event_loop.specs.Answering.{EndsMessage}
use Rattle.tb_event_loop.specs.Places.{Changes, Ends, EndsAs, Enters, GoesOn, LacksAll, SeatsAgain, SetsHold, SetsStage, Settles, SettlesIf, SettlesTo, Spares, Stays, Vacates, connection_in, hold_in, is_over_at, is_waiting, stage_in}
use Rattle.tb_event_loop.specs.declared.connection.Connection.{Connection}
use Rattle.tb_event_loop.specs.declared.places.Places.{Places}
use Rattle.tb_rooms.specs.Holding.{vacant_hold}
use Rattle.tb_rooms.specs.declared.holding.Hold.{Hold}
use Rattle.tb_timeouts.specs.declared.stage.Stage.{Stage}
use Rattle.tb_timeouts.specs.declared.stage.Stage.TheVariants.{Vacant, Idle, Heading, Reading, Waiting, Answering, Closing}

-- what is set at one index is at no other
get_other : {X : Type 0} (xs : List X) (i c : ℕ) (x : X) → (i == c) ≡ false → slice_get (slice_set xs i x) c ≡ slice_get xs c
get_other [] i c x other = refl
get_other (y ∷ xs) zero zero x other = absurd (false≢true (sym other))
get_other (y ∷ xs) zero (suc c) x other = refl
get_other (y ∷ xs) (suc i) zero x other = refl
get_other (y ∷ xs) (suc i) (suc c) x other = get_other xs i c x (ne_eqb i c (λ same. eqb-false (suc i) (suc c) other (ap suc same)))

pub read_other : {X : Type 0} (xs ys : List X) (i c : ℕ) (x none : X) → ys ≡ slice_set xs i x → (i == c) ≡ false
    → unwrap_or (slice_get ys c) none ≡ unwrap_or (slice_get xs c) none
read_other xs ys i c x none are other = ap (λ zs. unwrap_or (slice_get zs c) none) are ∙ ap (λ found. unwrap_or found none) (get_other xs i c x other)

pub spares_same : (place : ℕ) (old new : Places) → new ≡ old → Spares place old new
spares_same place old new same = record {
  connections = λ c other. ap (λ (p : Places). connection_in p c) same;
  stages = λ c other. ap (λ (p : Places). stage_in p c) same;
  holds = λ c other. ap (λ (p : Places). hold_in p c) same;
  first = ap (λ (p : Places). p.first) same;
  cut = ap (λ (p : Places). p.cut) same;
  round = ap (λ (p : Places). p.round) same;
  rooms = ap (λ (p : Places). p.rooms) same;
  limits = ap (λ (p : Places). p.limits) same;
}

pub spares_then : (place : ℕ) (old between new : Places) → Spares place old between → Spares place between new → Spares place old new
spares_then place old between new one more = record {
  connections = λ c other. more.connections c other ∙ one.connections c other;
  stages = λ c other. more.stages c other ∙ one.stages c other;
  holds = λ c other. more.holds c other ∙ one.holds c other;
  first = more.first ∙ one.first;
  cut = more.cut ∙ one.cut;
  round = more.round ∙ one.round;
  rooms = more.rooms ∙ one.rooms;
  limits = more.limits ∙ one.limits;
}

-- the connection of the place, and how much may be written, may be others
pub spares_looked : (place : ℕ) (old new : Places) (slot : Option Connection) → new.connections.items ≡ slice_set old.connections.items place slot
    → new ≡ record old { connections = new.connections; rates = new.rates } → Spares place old new
spares_looked place old new slot are rest = record {
  connections = λ c other. read_other old.connections.items new.connections.items place c slot None are other;
  stages = λ c other. ap (λ (p : Places). stage_in p c) rest;
  holds = λ c other. ap (λ (p : Places). hold_in p c) rest;
  first = ap (λ (p : Places). p.first) rest;
  cut = ap (λ (p : Places). p.cut) rest;
  round = ap (λ (p : Places). p.round) rest;
  rooms = ap (λ (p : Places). p.rooms) rest;
  limits = ap (λ (p : Places). p.limits) rest;
}

pub spares_connection : (place : ℕ) (old new : Places) (slot : Option Connection) → new.connections.items ≡ slice_set old.connections.items place slot
    → new ≡ record old { connections = new.connections } → Spares place old new
spares_connection place old new slot are rest = record {
  connections = λ c other. read_other old.connections.items new.connections.items place c slot None are other;
  stages = λ c other. ap (λ (p : Places). stage_in p c) rest;
  holds = λ c other. ap (λ (p : Places). hold_in p c) rest;
  first = ap (λ (p : Places). p.first) rest;
  cut = ap (λ (p : Places). p.cut) rest;
  round = ap (λ (p : Places). p.round) rest;
  rooms = ap (λ (p : Places). p.rooms) rest;
  limits = ap (λ (p : Places). p.limits) rest;
}

pub spares_changed : (change : Connection → Connection) (place : ℕ) (old new : Places) → Changes change old new place → Spares place old new
spares_changed change place old new is = spares_connection place old new _ is.0 is.1

pub spares_stage : (place : ℕ) (old new : Places) (stage : Stage) → SetsStage old new place stage → Spares place old new
spares_stage place old new stage is = record {
  connections = λ c other. ap (λ (p : Places). connection_in p c) is.1;
  stages = λ c other. read_other old.stages.items new.stages.items place c stage Vacant is.0 other;
  holds = λ c other. ap (λ (p : Places). hold_in p c) is.1;
  first = ap (λ (p : Places). p.first) is.1;
  cut = ap (λ (p : Places). p.cut) is.1;
  round = ap (λ (p : Places). p.round) is.1;
  rooms = ap (λ (p : Places). p.rooms) is.1;
  limits = ap (λ (p : Places). p.limits) is.1;
}

pub spares_noted : (place : ℕ) (old new : Places) (hold : Hold) → new.holds.items ≡ slice_set old.holds.items place hold
    → new ≡ record old { holds = new.holds; is_tight = new.is_tight } → Spares place old new
spares_noted place old new hold are rest = record {
  connections = λ c other. ap (λ (p : Places). connection_in p c) rest;
  stages = λ c other. ap (λ (p : Places). stage_in p c) rest;
  holds = λ c other. read_other old.holds.items new.holds.items place c hold vacant_hold are other;
  first = ap (λ (p : Places). p.first) rest;
  cut = ap (λ (p : Places). p.cut) rest;
  round = ap (λ (p : Places). p.round) rest;
  rooms = ap (λ (p : Places). p.rooms) rest;
  limits = ap (λ (p : Places). p.limits) rest;
}

pub spares_hold : (place : ℕ) (old new : Places) (hold : Hold) → SetsHold old new place hold → Spares place old new
spares_hold place old new hold is =
    spares_noted place old new hold is.0
    (is.1 ∙ ap (λ tight. record old { holds = new.holds; is_tight = tight }) (sym (ap (λ (p : Places). p.is_tight) is.1)))

pub spares_vacated : (place : ℕ) (old new : Places) → Vacates old new place → Spares place old new
spares_vacated place old new is = record {
  connections = λ c other. read_other old.connections.items new.connections.items place c None None is.0 other;
  stages = λ c other. read_other old.stages.items new.stages.items place c Vacant Vacant is.1 other;
  holds = λ c other. read_other old.holds.items new.holds.items place c vacant_hold vacant_hold is.2 other;
  first = ap (λ (p : Places). p.first) is.3;
  cut = ap (λ (p : Places). p.cut) is.3;
  round = ap (λ (p : Places). p.round) is.3;
  rooms = ap (λ (p : Places). p.rooms) is.3;
  limits = ap (λ (p : Places). p.limits) is.3;
}

-- ---- a connection that was lent

pub spares_lent : (place : ℕ) (old new : Places) (connection : Connection) → SeatsAgain old place new connection → Spares place old new
spares_lent place old new connection is = spares_connection place old new (Some connection) is.0 is.1

pub spares_stays : (place : ℕ) (old new : Places) → Stays old new → Spares place old new
spares_stays place old new is = record {
  connections = λ c other. ap (λ (items : List (Option Connection)). unwrap_or (slice_get items c) None) is.0;
  stages = λ c other. ap (λ (p : Places). stage_in p c) is.1;
  holds = λ c other. ap (λ (p : Places). hold_in p c) is.1;
  first = ap (λ (p : Places). p.first) is.1;
  cut = ap (λ (p : Places). p.cut) is.1;
  round = ap (λ (p : Places). p.round) is.1;
  rooms = ap (λ (p : Places). p.rooms) is.1;
  limits = ap (λ (p : Places). p.limits) is.1;
}

-- ---- how a turn ends

pub spares_message : (files : List ℕ → Bool) (head answer : List ℕ) (own swept now : ℕ) (kept : Bool) (old new : Places) (place : ℕ)
    → EndsMessage files head answer own swept now kept old new place → Spares place old new
spares_message files head [] own swept now kept old new place is = spares_connection place old new _ is.0 is.1
spares_message files head (byte ∷ answer) own swept now kept old new place is =
    let rest = is.2.2 in
    record {
      connections = λ c other. read_other old.connections.items new.connections.items place c _ None is.2.0 other;
      stages = λ c other. ap (λ (p : Places). stage_in p c) rest;
      holds = λ c other. read_other old.holds.items new.holds.items place c _ vacant_hold is.2.1 other;
      first = ap (λ (p : Places). p.first) rest;
      cut = ap (λ (p : Places). p.cut) rest;
      round = ap (λ (p : Places). p.round) rest;
      rooms = ap (λ (p : Places). p.rooms) rest;
      limits = ap (λ (p : Places). p.limits) rest;
    }

pub spares_entered : (place now : ℕ) (old new : Places) (owed held : List ℕ) (closes : Bool) → Enters old new place now owed closes held → Spares place old new
spares_entered place now old new owed held closes is = spares_stage place old new _ is.2

spares_lacking : (place : ℕ) (old new : Places) (held : List ℕ) → LacksAll held old new place → Spares place old new
spares_lacking place old new [] is = spares_connection place old new _ is.0 is.1
spares_lacking place old new (byte ∷ held) is = spares_same place old new is

spares_gone_on : (place now : ℕ) (old new : Places) (owed held : List ℕ) (closes : Bool) → GoesOn old new place now owed closes held → Spares place old new
spares_gone_on place now old new owed held closes is =
    spares_then place old is.0 new (spares_lacking place old is.0 held is.1) (spares_entered place now is.0 new owed held closes is.2)

spares_settled_to : (place now : ℕ) (old new : Places) (owed held : List ℕ) (closes : Bool) → SettlesTo old new place now owed closes held → Spares place old new
spares_settled_to place now old new (byte ∷ owed) held closes is = spares_same place old new is
spares_settled_to place now old new [] held true is = spares_stage place old new _ is
spares_settled_to place now old new [] held false is = spares_gone_on place now old new [] held false is

spares_settled_if : (waits : Bool) (place now : ℕ) (old new : Places) (owed held : List ℕ) (closes : Bool) → SettlesIf waits old new place now owed closes held → Spares place old new
spares_settled_if true place now old new owed held closes is = spares_same place old new is
spares_settled_if false place now old new owed held closes is = spares_settled_to place now old new owed held closes is

pub spares_settled : (place now : ℕ) (old new : Places) (owed held : List ℕ) (closes : Bool) → Settles old new place now owed closes held → Spares place old new
spares_settled place now old new owed held closes is = spares_settled_if (is_waiting (stage_in old place)) place now old new owed held closes is

spares_ended_as : (stage : Stage) (place now : ℕ) (old new : Places) → EndsAs stage old new place now → Spares place old new
spares_ended_as Vacant place now old new is = spares_stage place old new _ is
spares_ended_as (Idle since) place now old new is = spares_stage place old new _ is
spares_ended_as (Heading begun) place now old new is = spares_stage place old new _ is
spares_ended_as (Reading begun) place now old new is = spares_stage place old new _ is
spares_ended_as (Waiting since) place now old new is = spares_stage place old new _ is
spares_ended_as (Answering since taken) place now old new is = spares_stage place old new _ is
spares_ended_as (Closing since reads) place now old new is = spares_connection place old new _ is.0 is.1

pub spares_ended : (place now : ℕ) (old new : Places) → Ends old new place now → Spares place old new
spares_ended place now old new is = spares_ended_as (stage_in old place) place now old new is

pub begun_spares : (place : ℕ) (old placed : Places) (now : ℕ) → (is_over_at old place now ≡ true → Ends old placed place now) → (is_over_at old place now ≡ false → placed ≡ old)
    → (is_over_at old place now ≡ true) ⊎ (is_over_at old place now ≡ false) → Spares place old placed
begun_spares place old placed now ends same (inl is) = spares_ended place now old placed (ends is)
begun_spares place old placed now ends same (inr isnt) = spares_same place old placed (same isnt)
