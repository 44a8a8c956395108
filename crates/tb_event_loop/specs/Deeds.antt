-- What a loop does, as one list: the calls of its sockets, and the turns that it gives.
use Rattle.std.specs.Prelude.{◌≡◌, ◌⊎◌, ℕ, ◌==◌, Bool, true, false, List, [], ◌∷◌, ◌++◌, length}
use Rattle.tb_event_loop.specs.Done.{Done, ends_in, opened, came, turned, went}
use Rattle.tb_event_loop.specs.Sockets.{Called, read, wrote, closed, unread, unwritten}

pub data Deed : Type 0 where
  called : Called → Deed
  -- the connection of this place was given its turn
  gave_turn : ℕ → Deed

-- What a deed does to the service: all bytes that came reach it, it is told how many went, and that a connection was let go of.
abbrev pub done_by : Deed → List (ℕ × Done)
done_by (gave_turn place) = (place, turned) ∷ []
done_by (called (read place (byte ∷ bytes))) = (place, came (byte ∷ bytes)) ∷ []
done_by (called (wrote place (byte ∷ bytes))) = (place, went (length (byte ∷ bytes))) ∷ []
done_by (called (closed place)) = (place, opened) ∷ []
done_by deed = []

abbrev pub done_in : List Deed → List (ℕ × Done)
done_in [] = []
done_in (deed ∷ deeds) = done_by deed ++ done_in deeds

abbrev pub calls_by : Deed → List Called
calls_by (called call) = call ∷ []
calls_by (gave_turn place) = []

abbrev pub calls_in : List Deed → List Called
calls_in [] = []
calls_in (deed ∷ deeds) = calls_by deed ++ calls_in deeds

module _ {V : Type 0} (happens : Bool → List (ℕ × Done) → V → V → Type 0) (owed : V → ℕ → List ℕ) where
  -- bytes that went are the front of what the service owed there
  abbrev pub Owes : Deed → V → Type 0
  Owes (called (wrote place bytes)) v = (rest : List ℕ) × (owed v place ≡ bytes ++ rest)
  Owes deed v = Unit {0}

  -- One service comes of another by what a deed does to it. It fails only where something is done to it.
  abbrev pub Comes : List (ℕ × Done) → Bool → V → V → Type 0
  Comes [] false a b = b ≡ a
  Comes [] true a b = ⊥
  Comes (done ∷ more) stopped a b = happens stopped (done ∷ more) a b

  -- one deed after the other, each done to the service as it is then
  abbrev pub Does : List Deed → V → V → Type 0
  Does [] a b = b ≡ a
  Does (deed ∷ deeds) a b =
      Owes deed a × (between : V) × Comes (done_by deed) false a between × Does deeds between b

  -- the store failed at the last of them
  abbrev pub Stops : List Deed → V → V → Type 0
  Stops deeds a b = (front : List Deed) × (last : Deed) × (deeds ≡ front ++ (last ∷ []))
      × (between : V) × Does front a between × Owes last between
      × Comes (done_by last) true between b

  abbrev pub DoesTo : Bool → List Deed → V → V → Type 0
  DoesTo false deeds a b = Does deeds a b
  DoesTo true deeds a b = Stops deeds a b

-- Sockets and a service come of others by these deeds: what the sockets were asked and answered, and what was done to the service with it.
abbrev pub Acts : {N V : Type 0} → (List Called → N → N → Type 0)
    → (Bool → List (ℕ × Done) → V → V → Type 0) → (V → ℕ → List ℕ) → Bool → List Deed
    → N × V → N × V → Type 0
Acts calls happens owed stopped deeds a b =
    calls (calls_in deeds) a.0 b.0 × DoesTo happens owed stopped deeds a.1 b.1

-- all of this was done to the connection of one place
abbrev pub AreAt : ℕ → List (ℕ × Done) → Type 0
AreAt place [] = Unit {0}
AreAt place (done ∷ more) = (done.0 ≡ place) × AreAt place more

-- none of this was
abbrev pub AreElsewhere : ℕ → List (ℕ × Done) → Type 0
AreElsewhere place [] = Unit {0}
AreElsewhere place (done ∷ more) = ((done.0 == place) ≡ false) × AreElsewhere place more

-- the same, and nothing was done but to the connection of one place
abbrev pub ActsAt : {N V : Type 0} → ℕ → (List Called → N → N → Type 0)
    → (Bool → List (ℕ × Done) → V → V → Type 0) → (V → ℕ → List ℕ) → Bool → List Deed
    → N × V → N × V → Type 0
ActsAt place calls happens owed stopped deeds a b =
    Acts calls happens owed stopped deeds a b × AreAt place (done_in deeds)

-- one of the deeds is of this kind
abbrev pub Has : (Deed → Type 0) → List Deed → Type 0
Has kind [] = ⊥
Has kind (deed ∷ deeds) = kind deed ⊎ Has kind deeds

-- Some deeds were done, one after the other, and so many connections ended by them.
pub record Did {S : Type 0} (acts : Bool → List Deed → S → S → Type 0) (stopped : Bool) (ended : ℕ) (old new : S) : Type 0 where
  pub deeds : List Deed
  pub done : acts stopped deeds old new
  pub ends : ends_in (done_in deeds) ≡ ended

-- A deed of this kind was done first, and what came of it. No connection ended.
pub record Begins {S : Type 0} (acts : Bool → List Deed → S → S → Type 0) (stopped : Bool) (kind : Deed → Type 0) (old new : S) : Type 0 where
  pub first : Deed
  pub is : kind first
  pub more : List Deed
  pub done : acts stopped (first ∷ more) old new
  pub ends : ends_in (done_in (first ∷ more)) ≡ 0

-- The connection of a place had its turn, and what came of it was done.
abbrev pub IsTurn : ℕ → Deed → Type 0
IsTurn place deed = deed ≡ gave_turn place

abbrev pub GivesTurn : {S : Type 0} → (Bool → List Deed → S → S → Type 0) → Bool → ℕ → S → S
    → Type 0
GivesTurn acts stopped place old new = Begins acts stopped (IsTurn place) old new

-- something was written to the connection of a place, or it couldn't be
abbrev pub IsWrite : ℕ → Deed → Type 0
IsWrite place (called (wrote at bytes)) = at ≡ place
IsWrite place (called (unwritten at kind)) = at ≡ place
IsWrite place deed = ⊥

-- its socket was read, and what came was handed on
abbrev pub IsRead : ℕ → Deed → Type 0
IsRead place (called (read at bytes)) = at ≡ place
IsRead place (called (unread at kind)) = at ≡ place
IsRead place deed = ⊥

-- its connection was let go of
abbrev pub IsClose : ℕ → Deed → Type 0
IsClose place deed = deed ≡ called (closed place)

-- The connection of a place was given its turn alone, or nothing was done to the service.
abbrev pub TurnsOrNot : {V : Type 0} → (Bool → List (ℕ × Done) → V → V → Type 0) → Bool → ℕ → V → V
    → Type 0
TurnsOrNot happens stopped place old new =
    happens stopped ((place, turned) ∷ []) old new ⊎ ((stopped ≡ false) × (new ≡ old))

-- something is still to be sent
abbrev pub OwesBytes : List ℕ → Type 0
OwesBytes [] = ⊥
OwesBytes (byte ∷ owed) = Unit {0}
