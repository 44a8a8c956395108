-- What is held after a turn.
use Rattle.std.proofs.Common.{◌≡◌, ◌∙◌, ℕ, zero, suc, ◌-◌, Bool, true, false, List, [], ◌∷◌, Option, Some, None, length, unwrap_or, refl, sym, ap, subst, inl, inr}
use Rattle.std.specs.Prelude.{◌⊎◌, ◌||◌, slice_get, slice_set}
use Rattle.tb_event_loop.specs.Answering.{EndsMessage}
use Rattle.tb_event_loop.specs.Noting.{CountsOut, HoldsOn, IsNoted, IsStillHeld, counted}
use Rattle.tb_event_loop.specs.Places.{Changes, Ends, EndsAs, Enters, GoesOn, LacksAll, SetsHold, SetsStage, Settles, SettlesIf, SettlesTo, Vacates, connection_in, hold_in, is_over_at, is_waiting, stage_in}
use Rattle.tb_event_loop.specs.Sharing.{Notes, is_tight_by, owner_at, turned_for}
use Rattle.tb_event_loop.specs.declared.event_loop.EventLoop.{EventLoop}
use Rattle.tb_event_loop.specs.declared.connection.Connection.{Connection}
use Rattle.tb_event_loop.specs.declared.places.Places.{Places}
use Rattle.tb_rooms.specs.Holding.{after_turn, vacant_hold}
use Rattle.tb_rooms.specs.declared.holding.Hold.{Hold}
use Rattle.tb_timeouts.specs.declared.stage.Stage.{Stage}
use Rattle.tb_timeouts.specs.declared.stage.Stage.TheVariants.{Vacant, Idle, Heading, Reading, Waiting, Answering, Closing}

-- ---- one item of a list

set_same : {X : Type 0} (xs : List X) (i : ℕ) (none : X) → slice_set xs i (unwrap_or (slice_get xs i) none) ≡ xs
set_same [] i none = refl
set_same (x ∷ xs) zero none = refl
set_same (x ∷ xs) (suc i) none = ap (λ rest. x ∷ rest) (set_same xs i none)

set_set : {X : Type 0} (xs : List X) (i : ℕ) (x y : X) → slice_set (slice_set xs i x) i y ≡ slice_set xs i y
set_set [] i x y = refl
set_set (z ∷ xs) zero x y = refl
set_set (z ∷ xs) (suc i) x y = ap (λ rest. z ∷ rest) (set_set xs i x y)

-- what is set is there, or no item is
get_set : {X : Type 0} (xs : List X) (i : ℕ) (x none : X)
    → (unwrap_or (slice_get (slice_set xs i x) i) none ≡ x) ⊎ (unwrap_or (slice_get (slice_set xs i x) i) none ≡ none)
get_set [] i x none = inr refl
get_set (z ∷ xs) zero x none = inl refl
get_set (z ∷ xs) (suc i) x none = get_set xs i x none

-- what is set by what was set
set_got : {X : Type 0} (xs : List X) (i : ℕ) (x none : X) (change : X → X)
    → slice_set (slice_set xs i x) i (change (unwrap_or (slice_get (slice_set xs i x) i) none)) ≡ slice_set xs i (change x)
set_got [] i x none change = refl
set_got (z ∷ xs) zero x none change = refl
set_got (z ∷ xs) (suc i) x none change = ap (λ rest. z ∷ rest) (set_got xs i x none change)

-- ---- places of which only connections and stages were changed

abbrev pub Kept : Places → Places → Type 0
Kept old new = new ≡ record old { connections = new.connections; stages = new.stages }

pub kept_same : (old new : Places) → new ≡ old → Kept old new
kept_same old new same = subst (λ (p : Places). Kept old p) (sym same) refl

pub kept_connections : (old new : Places) → new ≡ record old { connections = new.connections } → Kept old new
kept_connections old new is =
    is ∙ ap (λ stages. record old { connections = new.connections; stages = stages }) (sym (ap (λ (p : Places). p.stages) is))

pub kept_stages : (old new : Places) → new ≡ record old { stages = new.stages } → Kept old new
kept_stages old new is =
    is ∙ ap (λ connections. record old { connections = connections; stages = new.stages }) (sym (ap (λ (p : Places). p.connections) is))

pub kept_then : (old between new : Places) → Kept old between → Kept between new → Kept old new
kept_then old between new one more = more ∙ ap (λ (p : Places). record p { connections = new.connections; stages = new.stages }) one

kept_lacking : (place : ℕ) (old new : Places) (held : List ℕ) → LacksAll held old new place → Kept old new
kept_lacking place old new [] is = kept_connections old new is.1
kept_lacking place old new (byte ∷ held) is = kept_same old new is

kept_settled_to : (place now : ℕ) (old new : Places) (owed held : List ℕ) (closes : Bool) → SettlesTo old new place now owed closes held → Kept old new
kept_settled_to place now old new (byte ∷ owed) held closes is = kept_same old new is
kept_settled_to place now old new [] held true is = kept_stages old new is.1
kept_settled_to place now old new [] held false is =
    kept_then old is.0 new (kept_lacking place old is.0 held is.1) (kept_stages is.0 new is.2.2.1)

kept_settled_if : (waits : Bool) (place now : ℕ) (old new : Places) (owed held : List ℕ) (closes : Bool) → SettlesIf waits old new place now owed closes held → Kept old new
kept_settled_if true place now old new owed held closes is = kept_same old new is
kept_settled_if false place now old new owed held closes is = kept_settled_to place now old new owed held closes is

pub kept_settled : (place now : ℕ) (old new : Places) (owed held : List ℕ) (closes : Bool) → Settles old new place now owed closes held → Kept old new
kept_settled place now old new owed held closes is = kept_settled_if (is_waiting (stage_in old place)) place now old new owed held closes is

-- ---- no more than an answer is counted

pub counts_none : (place : ℕ) (old new : Places) → new.holds.items ≡ old.holds.items → new.is_tight ≡ old.is_tight → CountsOut old new place
counts_none place old new same tight = record { answer = None; holds = same ∙ sym (set_same old.holds.items place vacant_hold); tight = tight }

pub counts_kept : (place : ℕ) (old new : Places) → Kept old new → CountsOut old new place
counts_kept place old new is = counts_none place old new (ap (λ (p : Places). p.holds.items) is) (ap (λ (p : Places). p.is_tight) is)

-- behind what left all that is held
pub counts_after : (place : ℕ) (old between new : Places) → between.holds.items ≡ old.holds.items → between.is_tight ≡ old.is_tight
    → CountsOut between new place → CountsOut old new place
counts_after place old between new same tight is = record {
  answer = is.answer;
  holds = is.holds ∙ ap (λ (xs : List Hold). slice_set xs place (counted is.answer (unwrap_or (slice_get xs place) vacant_hold))) same;
  tight = is.tight ∙ tight;
}

pub counts_before : (place : ℕ) (old between new : Places) → CountsOut old between place → new.holds.items ≡ between.holds.items → new.is_tight ≡ between.is_tight
    → CountsOut old new place
counts_before place old between new is same tight = record { answer = is.answer; holds = same ∙ is.holds; tight = tight ∙ is.tight }

pub kept_then_counts : (place : ℕ) (old between new : Places) → Kept old between → CountsOut between new place → CountsOut old new place
kept_then_counts place old between new kept is =
    counts_after place old between new (ap (λ (p : Places). p.holds.items) kept) (ap (λ (p : Places). p.is_tight) kept) is

pub counts_then_kept : (place : ℕ) (old between new : Places) → CountsOut old between place → Kept between new → CountsOut old new place
counts_then_kept place old between new is kept =
    counts_before place old between new is (ap (λ (p : Places). p.holds.items) kept) (ap (λ (p : Places). p.is_tight) kept)

pub counts_message : (files : List ℕ → Bool) (head answer : List ℕ) (own swept now : ℕ) (kept : Bool) (old new : Places) (place : ℕ)
    → EndsMessage files head answer own swept now kept old new place → CountsOut old new place
counts_message files head [] own swept now kept old new place is =
    counts_none place old new (ap (λ (p : Places). p.holds.items) is.1) (ap (λ (p : Places). p.is_tight) is.1)
counts_message files head (byte ∷ answer) own swept now kept old new place is = record {
  answer = Some (length (byte ∷ answer));
  holds = is.2.1;
  tight = ap (λ (p : Places). p.is_tight) is.2.2;
}

-- ---- what is held after a turn

pub holds_counted : (place : ℕ) (old new : Places) → CountsOut old new place → HoldsOn old new place
holds_counted place old new is =
    let hold = counted is.answer (hold_in old place) in
    let got = ap (λ (xs : List Hold). unwrap_or (slice_get xs place) vacant_hold) is.holds in
    record {
      holds = sym (set_same new.holds.items place vacant_hold) ∙ ap (λ (xs : List Hold). slice_set xs place (hold_in new place)) is.holds
          ∙ set_set old.holds.items place hold (hold_in new place);
      is = elim (get_set old.holds.items place hold vacant_hold) [ inl same ↦ inr (is.answer, got ∙ same) | inr none ↦ inl (got ∙ none) ];
      tight = is.tight;
    }

pub holds_vacated : (place : ℕ) (old between new : Places) → CountsOut old between place → Vacates between new place → HoldsOn old new place
holds_vacated place old between new is gone =
    let hold = counted is.answer (hold_in old place) in
    let items = gone.2 ∙ ap (λ (xs : List Hold). slice_set xs place vacant_hold) is.holds ∙ set_set old.holds.items place hold vacant_hold in
    let got : hold_in new place ≡ vacant_hold = ap (λ (xs : List Hold). unwrap_or (slice_get xs place) vacant_hold) items ∙ (
    elim (get_set old.holds.items place vacant_hold vacant_hold) [ inl same ↦ same | inr none ↦ none ]
    ) in
    record {
      holds = items ∙ sym (ap (λ (h : Hold). slice_set old.holds.items place h) got);
      is = inl got;
      tight = ap (λ (p : Places). p.is_tight) gone.3 ∙ is.tight;
    }

-- ---- one that has stayed too long begins to end

begun_as : (stage : Stage) (place now : ℕ) (old new : Places) → EndsAs stage old new place now → Kept old new
begun_as Vacant place now old new is = kept_stages old new is.1
begun_as (Idle since) place now old new is = kept_stages old new is.1
begun_as (Heading begun) place now old new is = kept_stages old new is.1
begun_as (Reading begun) place now old new is = kept_stages old new is.1
begun_as (Waiting since) place now old new is = kept_stages old new is.1
begun_as (Answering since taken) place now old new is = kept_stages old new is.1
begun_as (Closing since reads) place now old new is = kept_connections old new is.1

pub kept_begun : (place : ℕ) (old placed : Places) (now : ℕ) → (is_over_at old place now ≡ true → Ends old placed place now) → (is_over_at old place now ≡ false → placed ≡ old)
    → (is_over_at old place now ≡ true) ⊎ (is_over_at old place now ≡ false) → Kept old placed
kept_begun place old placed now ends same (inl is) = begun_as (stage_in old place) place now old placed (ends is)
kept_begun place old placed now ends same (inr isnt) = kept_same old placed (same isnt)

-- ---- and what is noted then

module _ {V : Type 0} (wants : V → ℕ → ℕ → Type 0) (owed : V → ℕ → List ℕ) where
  pub noted_by : (place : ℕ) (before after : EventLoop) (placed turned noted : Places) (service : V) (wanted millis : ℕ)
      → Kept before.places placed → HoldsOn placed turned place → wants service place wanted
      → Notes turned noted place (after_turn (owner_at (connection_in turned place)) (stage_in turned place) wanted (length (owed service place)) (hold_in turned place))
      → noted ≡ record turned { holds = noted.holds; is_tight = noted.is_tight }
      → SetsHold noted after.places place (turned_for noted.round millis (hold_in noted place))
      → millis ≡ after.seen - before.seen → turned.round ≡ before.places.round → turned.rooms ≡ before.places.rooms
      → IsNoted wants owed place before after service
  noted_by place before after placed turned noted service wanted millis kept held is_wanted notes rest counts time round rooms =
      let hold = after_turn (owner_at (connection_in turned place)) (stage_in turned place) wanted (length (owed service place)) (hold_in turned place) in
      let first = ap (λ (p : Places). p.holds.items) kept in
      let connection : connection_in after.places place ≡ connection_in turned place = ap (λ (p : Places). connection_in p place) (counts.1) ∙ ap (λ (p : Places). connection_in p place) rest in
      let stage : stage_in after.places place ≡ stage_in turned place = ap (λ (p : Places). stage_in p place) (counts.1) ∙ ap (λ (p : Places). stage_in p place) rest in
      let round_noted : noted.round ≡ before.places.round = ap (λ (p : Places). p.round) rest ∙ round in
      let items : turned.holds.items ≡ slice_set before.places.holds.items place (hold_in turned place) = held.holds ∙ ap (λ (xs : List Hold). slice_set xs place (hold_in turned place)) first in
      record {
        held = hold_in turned place;
        was = subst (λ (h : Hold). IsStillHeld h (hold_in turned place)) (ap (λ (xs : List Hold). unwrap_or (slice_get xs place) vacant_hold) first) held.is;
        wanted = wanted;
        is_wanted = is_wanted;
        hold = hold;
        is = sym (ap (λ (found : Option Connection). after_turn (owner_at found) (stage_in after.places place) wanted (length (owed service place)) (hold_in turned place)) connection
            ∙ ap (λ (s : Stage). after_turn (owner_at (connection_in turned place)) s wanted (length (owed service place)) (hold_in turned place)) stage);
        holds = counts.0
            ∙ ap (λ (xs : List Hold). slice_set xs place (turned_for noted.round millis (unwrap_or (slice_get xs place) vacant_hold))) notes.0
            ∙ set_got turned.holds.items place hold vacant_hold (turned_for noted.round millis)
            ∙ ap (λ (xs : List Hold). slice_set xs place (turned_for noted.round millis hold)) items
            ∙ set_set before.places.holds.items place (hold_in turned place) (turned_for noted.round millis hold)
            ∙ ap (λ (n : ℕ). slice_set before.places.holds.items place (turned_for n millis hold)) round_noted
            ∙ ap (λ (m : ℕ). slice_set before.places.holds.items place (turned_for before.places.round m hold)) time;
        tight = ap (λ (p : Places). p.is_tight) counts.1 ∙ notes.1
            ∙ ap (λ (b : Bool). b || is_tight_by turned.rooms.allowance hold) (held.tight ∙ ap (λ (p : Places). p.is_tight) kept)
            ∙ ap (λ rooms. before.places.is_tight || is_tight_by rooms hold) (ap (λ r. r.allowance) rooms);
      }
