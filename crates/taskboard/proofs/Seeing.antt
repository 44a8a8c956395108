-- A run of a service, seen as a run of what it stands for.
use Rattle.std.proofs.Common.{◌≡◌, ℕ, Bool, false, true, List, [], ◌∷◌, ap, ◌∙◌}
use Rattle.tb_event_loop.specs.Deeds.{Comes, Deed, Does, DoesTo, Owes, called, done_by, gave_turn}
use Rattle.tb_event_loop.specs.Done.{Done}
use Rattle.tb_event_loop.specs.Sockets.{Called, accepted, closed, deaf, dropped, read, seated, shut, unaccepted, unread, unwritten, waited, wrote}

module _ {V W : Type 0} (happens : Bool → List (ℕ × Done) → V → V → Type 0) (owed : V → ℕ → List ℕ)
    (see : V → W) (comes : Bool → List (ℕ × Done) → W → W → Type 0) (owes : W → ℕ → List ℕ)
    (seen : (history : List (ℕ × Done)) (a b : V) → happens false history a b → comes false history (see a) (see b))
    (same : (v : V) (place : ℕ) → owes (see v) place ≡ owed v place) where
  owes_seen : (deed : Deed) (v : V) → Owes happens owed deed v → Owes comes owes deed (see v)
  owes_seen (gave_turn place) v is = tt
  owes_seen (called (waited millis told)) v is = tt
  owes_seen (called deaf) v is = tt
  owes_seen (called accepted) v is = tt
  owes_seen (called (unaccepted kind)) v is = tt
  owes_seen (called (seated place told)) v is = tt
  owes_seen (called (read place bytes)) v is = tt
  owes_seen (called (unread place kind)) v is = tt
  owes_seen (called (dropped place count)) v is = tt
  owes_seen (called (wrote place bytes)) v is = (is.0, same v place ∙ is.1)
  owes_seen (called (unwritten place kind)) v is = tt
  owes_seen (called (shut place)) v is = tt
  owes_seen (called (closed place)) v is = tt

  comes_seen : (history : List (ℕ × Done)) (a b : V) → Comes happens owed history false a b → Comes comes owes history false (see a) (see b)
  comes_seen [] a b is = ap see is
  comes_seen (done ∷ more) a b is = seen (done ∷ more) a b is

  all_seen : (deeds : List Deed) (a b : V) → Does happens owed deeds a b → Does comes owes deeds (see a) (see b)
  all_seen [] a b is = ap see is
  all_seen (deed ∷ deeds) a b is = (owes_seen deed a is.0, see is.1, comes_seen (done_by deed) a is.1 is.2, all_seen deeds is.1 b is.3)

module _ {V W : Type 0} (happens : Bool → List (ℕ × Done) → V → V → Type 0) (owed : V → ℕ → List ℕ)
    (see : V → W) (comes : Bool → List (ℕ × Done) → W → W → Type 0) (owes : W → ℕ → List ℕ)
    (seen : (stopped : Bool) (history : List (ℕ × Done)) (a b : V) → happens stopped history a b → comes stopped history (see a) (see b))
    (same : (v : V) (place : ℕ) → owes (see v) place ≡ owed v place) where
  last_seen : (history : List (ℕ × Done)) (a b : V) → Comes happens owed history true a b → Comes comes owes history true (see a) (see b)
  last_seen [] a b is = absurd is
  last_seen (done ∷ more) a b is = seen true (done ∷ more) a b is

  -- the same deeds, each done to what the service stood for then, also up to the one at which the store failed
  pub does_to_seen : (stopped : Bool) (deeds : List Deed) (a b : V) → DoesTo happens owed stopped deeds a b → DoesTo comes owes stopped deeds (see a) (see b)
  does_to_seen false deeds a b is = all_seen happens owed see comes owes (seen false) same deeds a b is
  does_to_seen true deeds a b (front, last, parts, between, done, owing, came) = (
    front,
    last,
    parts,
    see between,
    all_seen happens owed see comes owes (seen false) same front a between done,
    owes_seen happens owed see comes owes (seen false) same last between owing,
    last_seen (done_by last) between b came,
  )
