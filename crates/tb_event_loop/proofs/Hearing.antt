-- Connections of which the system tells, that are seated, or let go.
use Rattle.std.proofs.Common.{◌≡◌, ◌∙◌, ℕ, zero, suc, Bool, true, false, List, [], ◌∷◌, Option, Some, None, ap, get_or, inl, inr, position, refl, subst, sym, unwrap_or}
use Rattle.std.specs.Prelude.{◌==◌, if◌then◌else◌, slice_get, slice_set}
use Rattle.std.specs.Option.{option_map}
use Rattle.std.proofs.lemmas.Bool.{eqb-true, true≢false}
use Rattle.std.proofs.lemmas.List.Quantifiers.{position-Some}
use Rattle.tb_event_loop.specs.Connection.{leaving, marked}
use Rattle.tb_event_loop.specs.Hearing.{Hears, IsStill, Remain, is_of, marked_by, marked_if}
use Rattle.tb_event_loop.specs.Places.{Changes, LetsGoOne, Seats, SeatsAgain, Spares, connection_in, stage_in}
use Rattle.tb_event_loop.specs.declared.connection.Connection.{Connection}
use Rattle.tb_event_loop.specs.declared.places.Places.{Places}
use Rattle.tb_event_loop.specs.declared.sockets.Told.{Told}
use Rattle.tb_event_loop.proofs.Sparing.{read_other}
use Rattle.tb_timeouts.specs.Stage.{is_vacant}
use Rattle.tb_timeouts.specs.declared.stage.Stage.{Stage}
use Rattle.tb_timeouts.specs.declared.stage.Stage.TheVariants.{Vacant}

-- a place that has a connection has the one that is set there
set_in : (xs : List (Option Connection)) (i : ℕ) (old new : Connection) → unwrap_or (slice_get xs i) None ≡ Some old
    → unwrap_or (slice_get (slice_set xs i (Some new)) i) None ≡ Some new
set_in [] i old new is = absurd (cc)
set_in (x ∷ xs) zero old new is = refl
set_in (x ∷ xs) (suc i) old new is = set_in xs i old new is

-- ---- what is told

pub marked_at : (place : ℕ) (before after : Places) (old new : Connection) → connection_in before place ≡ Some old → SeatsAgain before place after new
    → connection_in after place ≡ Some new
marked_at place before after old new at is =
    ap (λ items. unwrap_or (slice_get items place) None) is.0 ∙ set_in before.connections.items place old new at

map_same : (found : Option Connection) → option_map (λ c. c) found ≡ found
map_same None = refl
map_same (Some c) = refl

pub marked_one : (one : Told) (place : ℕ) (old new : Places) → one.place ≡ Some place
    → connection_in new place ≡ option_map (marked one) (connection_in old place) → Spares place old new
    → (at : ℕ) → connection_in new at ≡ option_map (marked_if one at) (connection_in old at)
marked_one one place old new is marks spares at = by (place == at) refl
  where
    of : (b : Bool) → (place == at) ≡ b → is_of at one.place ≡ b
    of b same = ap (is_of at) is ∙ same

    Goal : Bool → Type 0
    Goal b = connection_in new at ≡ option_map (λ c. if b then marked one c else c) (connection_in old at)

    by : (b : Bool) → (place == at) ≡ b → connection_in new at ≡ option_map (marked_if one at) (connection_in old at)
    by true same = subst Goal (sym (of true same)) (subst (λ p. connection_in new p ≡ option_map (marked one) (connection_in old p)) (eqb-true place at same) marks)
    by false same = subst Goal (sym (of false same)) (spares.connections at same ∙ sym (map_same (connection_in old at)))

pub marked_none : (one : Told) (old : Places) → one.place ≡ None → (at : ℕ) → connection_in old at ≡ option_map (marked_if one at) (connection_in old at)
marked_none one old is at =
    subst (λ (b : Bool). connection_in old at ≡ option_map (λ c. if b then marked one c else c) (connection_in old at)) (sym (ap (is_of at) is)) (sym (map_same (connection_in old at)))

pub marked_more : (one : Told) (told : List Told) (at : ℕ) (found : Option Connection)
    → option_map (marked_by told at) (option_map (marked_if one at) found) ≡ option_map (marked_by (one ∷ told) at) found
marked_more one told at None = refl
marked_more one told at (Some c) = refl

-- ---- who keeps a place

pub remain_same : (old new : Places) → new ≡ old → Remain old new
remain_same old new same place connection is taken =
    (inl (ap (λ (p : Places). connection_in p place) same ∙ is), ap (λ (p : Places). is_vacant (stage_in p place)) same ∙ taken)

still_left : (connection : Connection) (found : Option Connection) → IsStill (leaving connection) found → IsStill connection found
still_left connection found still = elim still [ inl is ↦ inr is | inr is ↦ inr is ]

pub remain_then : (old between new : Places) → Remain old between → Remain between new → Remain old new
remain_then old between new first more place connection is taken =
    let one = first place connection is taken in
    elim one.0 [
      | inl same ↦ more place connection same one.1
      | inr left ↦
          let later = more place (leaving connection) left one.1 in
          (still_left connection (connection_in new place) later.0, later.1)
    ]

pub remain_seated : (place now : ℕ) (old new : Places) → Seats old new place now → is_vacant (stage_in old place) ≡ true → Remain old new
remain_seated place now old new seats vacant at connection is taken = by (place == at) refl
  where
    by : (b : Bool) → (place == at) ≡ b → IsStill connection (connection_in new at) × (is_vacant (stage_in new at) ≡ false)
    by true same = absurd (true≢false (sym vacant ∙ ap (λ p. is_vacant (stage_in old p)) (eqb-true place at same) ∙ taken))
    by false same = (
      inl (read_other old.connections.items new.connections.items place at _ None seats.0 same ∙ is),
      ap is_vacant (read_other old.stages.items new.stages.items place at _ Vacant seats.1 same) ∙ taken,
    )

pub remain_left : (place : ℕ) (old new : Places) → Changes leaving old new place → Remain old new
remain_left place old new changes at connection is taken = by (place == at) refl
  where
    stays : is_vacant (stage_in new at) ≡ false
    stays = ap (λ (p : Places). is_vacant (stage_in p at)) changes.1 ∙ taken

    left : place ≡ at → connection_in new at ≡ Some (leaving connection)
    left same =
        let here : connection_in old place ≡ Some connection = subst (λ p. connection_in old p ≡ Some connection) (sym same) is in
        let items = changes.0 ∙ ap (λ (found : Option Connection). slice_set old.connections.items place (option_map leaving found)) here in
        subst (λ p. connection_in new p ≡ Some (leaving connection)) same
        (ap (λ xs. unwrap_or (slice_get xs place) None) items ∙ set_in old.connections.items place connection (leaving connection) here)

    by : (b : Bool) → (place == at) ≡ b → IsStill connection (connection_in new at) × (is_vacant (stage_in new at) ≡ false)
    by true same = (inr (left (eqb-true place at same)), stays)
    by false same = (inl (read_other old.connections.items new.connections.items place at _ None changes.0 same ∙ is), stays)

pub remain_one : (old new : Places) (found : Option ℕ) → LetsGoOne old new found → Remain old new
remain_one old new None same = remain_same old new same
remain_one old new (Some place) changes = remain_left place old new changes

get_same : (stages : List Stage) (i : ℕ) → unwrap_or (slice_get stages i) Vacant ≡ get_or stages i Vacant
get_same [] i = refl
get_same (x ∷ stages) zero = refl
get_same (x ∷ stages) (suc i) = get_same stages i

pub vacant_at : (places : Places) (place : ℕ) → position is_vacant places.stages.items ≡ Some place → is_vacant (stage_in places place) ≡ true
vacant_at places place is =
    ap is_vacant (get_same places.stages.items place) ∙ (position-Some is_vacant places.stages.items place Vacant is).1

-- ---- who is told of and keeps a place

pub hears : (told : List Told) (old between new : Places) → ((at : ℕ) → connection_in between at ≡ option_map (marked_by told at) (connection_in old at))
    → between ≡ record old { connections = between.connections } → Remain between new → Hears told old new
hears told old between new marks same remain place connection is taken =
    (remain place (marked_by told place connection) (marks place ∙ ap (option_map (marked_by told place)) is)
    (ap (λ (p : Places). is_vacant (stage_in p place)) same ∙ taken)).0
