-- A round of the loop: each place that is taken is visited once, and has its turn then.
use Rattle.std.specs.Prelude.{◌≡◌, ◌≢◌, ◌⊎◌, ◌<◌, ℕ, zero, suc, Bool, true, false, IsTrue, List, Option, Some, min}
use Rattle.tb_event_loop.specs.Deeds.{Acts, ActsAt, AreElsewhere, Deed, Has, IsClose, IsRead, IsTurn, IsWrite, done_in}
use Rattle.tb_event_loop.specs.Done.{Done, ends_in}
use Rattle.tb_event_loop.specs.History.{Leaves}
use Rattle.tb_event_loop.specs.Noting.{IsNoted}
use Rattle.tb_event_loop.specs.Places.{HasTurn, IsAnswered, IsHeard, IsWritten, Spares, connection_in, hold_in, is_leaving, is_over_at, stage_in}
use Rattle.tb_event_loop.specs.Sharing.{Shares, is_put_back, place_from, with_cut, with_first, with_round}
use Rattle.tb_event_loop.specs.Sockets.{Called}
use Rattle.tb_event_loop.specs.declared.connection.Connection.{Connection}
use Rattle.tb_event_loop.specs.declared.event_loop.EventLoop.{EventLoop}
use Rattle.tb_event_loop.specs.declared.places.Places.{Places}

-- What is done to a connection in its turn: a message that is due is answered, what it is owed is sent on, and bytes that it needs are read.
pub record IsTurnOf (files : List ℕ → Bool) (places : Places) (place now : ℕ) (held owed : List ℕ) (deeds : List Deed) : Type 0 where
  pub answered : IsAnswered files places place now held → Has (IsTurn place) deeds
  pub written : IsWritten places place owed → Has (IsWrite place) deeds
  pub heard : IsHeard places place → Has (IsRead place) deeds

-- One that leaves is let go of, unless all that were to end have ended.
abbrev pub Closes : ℕ → Option ℕ → Option Connection → List Deed → Type 0
Closes place limit found deeds =
    is_leaving found ≡ true → limit ≢ Some 0 → Has (IsClose place) deeds

abbrev pub IsTurnOrEnd : (List ℕ → Bool) → Places → ℕ → ℕ → List ℕ → List ℕ → Option ℕ
    → List Deed → Type 0
IsTurnOrEnd files places place now held owed limit deeds =
    IsTurnOf files places place now held owed deeds
    × Closes place limit (connection_in places place) deeds

-- as it is when a round begins
abbrev pub begun : EventLoop → EventLoop
begun event_loop = record event_loop {
  seen = event_loop.now;
  places = with_round event_loop.places;
}

-- The connection of a place is as it was, does what it did and holds what it held; and so are the rules, and the moment.
pub record IsAsBefore (place : ℕ) (before after : EventLoop) : Type 0 where
  pub connection : connection_in after.places place ≡ connection_in before.places place
  pub stage : stage_in after.places place ≡ stage_in before.places place
  pub hold : hold_in after.places place ≡ hold_in before.places place
  pub rooms : after.places.rooms ≡ before.places.rooms
  pub limits : after.places.limits ≡ before.places.limits
  pub moment : after.now ≡ before.now

module _ {N V : Type 0} (asks : List Called → N → N → Type 0)
    (happens : Bool → List (ℕ × Done) → V → V → Type 0)
    (files : V → List ℕ → Bool) (held owed : V → ℕ → List ℕ) (wants : V → ℕ → ℕ → Type 0) where
  -- Deeds were done to the connection of a place, and to no other; it had its turn, unless it has stayed too long.
  pub record Visits (stopped : Bool) (place : ℕ) (before after : EventLoop) (old new : N × V) : Type 0 where
    pub deeds : List Deed
    pub done : ActsAt place asks happens owed stopped deeds old new
    pub left : Leaves before.still_to_end (ends_in (done_in deeds)) after.still_to_end
    pub turned : is_over_at before.places place before.now ≡ false
        → IsTurnOrEnd (files old.1) before.places place before.now (held old.1 place)
        (owed old.1 place) before.still_to_end deeds
    -- where it has none, nothing is another
    pub passed : is_over_at before.places place before.now ≡ false
        → ¬ HasTurn before.places place before.now → (after ≡ before) × (new ≡ old)
    -- what it holds after its turn is noted
    pub noted : stopped ≡ false
        → IsTrue (is_over_at before.places place before.now) ⊎ HasTurn before.places place before.now
        → IsNoted wants owed place before after new.1
    -- one that leaves doesn't keep its place
    pub freed : stopped ≡ false → is_leaving (connection_in after.places place) ≡ false
    pub others : Spares place before.places after.places
    pub moment : after.now ≡ before.now

  -- A place whose owner had enough turns in this round is put back, and any other visited.
  abbrev pub VisitsNextIf : Bool → Bool → ℕ → EventLoop → EventLoop → N × V → N × V → Type 0
  VisitsNextIf true stopped place before after old new =
      (stopped ≡ false) × (new ≡ old)
      × (after ≡ record before { places = with_cut before.places place })
  VisitsNextIf false stopped place before after old new = Visits stopped place before after old new

  abbrev pub VisitsNext : Bool → ℕ → EventLoop → EventLoop → N × V → N × V → Type 0
  VisitsNext stopped place before after old new =
      VisitsNextIf (is_put_back before.places place before.now) stopped place before after old new

  -- the places of so many steps, one after the other, each as it was then
  abbrev pub VisitsEach : ℕ → ℕ → ℕ → EventLoop → EventLoop → N × V → N × V → Type 0
  VisitsEach first end zero before after old new = (after ≡ before) × (new ≡ old)
  VisitsEach first end (suc step) before after old new =
      (between : EventLoop) × (middle : N × V)
      × VisitsEach first end step before between old middle
      × VisitsNext false (place_from first step end) between after middle new

  -- A place was visited once among these deeds, and no other deed was done to its connection, which was at its visit as it is in this
  -- loop. What the visits before changed is shared by all: how much may be written, how many guess, and the room for answers.
  pub record IsVisited (place : ℕ) (before : EventLoop) (old new : N × V) : Type 0 where
    pub at : EventLoop
    pub later : EventLoop
    pub begin : N × V
    pub end : N × V
    pub front : List Deed
    pub back : List Deed
    pub came : Acts asks happens owed false front old begin
    pub went : Acts asks happens owed false back end new
    pub alone_before : AreElsewhere place (done_in front)
    pub alone_behind : AreElsewhere place (done_in back)
    pub same : IsAsBefore place before at
    pub visit : VisitsNext false place at later begin end

  -- A round begins at the place at which the one before was cut; each place is visited, and then room is given.
  pub record IsRound (before after : EventLoop) (old new : N × V) : Type 0 where
    pub last : EventLoop
    pub each : VisitsEach (min before.places.first before.places.end) before.places.end
        before.places.end (begun before) last old new
    pub shared : Shares (with_first last.places) after.places last.now
    pub rest : after ≡ record last { places = after.places }

  -- The store fails at the place of one step, and those of the steps before are visited.
  pub record IsCutRound (before after : EventLoop) (old new : N × V) : Type 0 where
    pub step : ℕ
    pub within : step < before.places.end
    pub between : EventLoop
    pub middle : N × V
    pub each : VisitsEach (min before.places.first before.places.end) before.places.end step
        (begun before) between old middle
    pub failed : VisitsNext true
        (place_from (min before.places.first before.places.end) step before.places.end)
        between after middle new
