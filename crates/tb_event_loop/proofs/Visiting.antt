-- The turn of one place, whichever kind it is of.
use Rattle.std.proofs.Common.{◌≡◌, ℕ, Bool, true, false, not, ◌&&◌, ◌||◌, List, [], ◌∷◌, ◌++◌, Option, Some, None, refl, sym, ap, subst, inl, inr, arith}
use Rattle.std.specs.Prelude.{◌≢◌, ◌⊎◌, ◌==◌, IsTrue, nat_le}
use Rattle.std.proofs.lemmas.Bool.{and_from, and_parts, both_ways, cases_Bool, false≢true, not-true, or_left, or_right}
use Rattle.tb_event_loop.specs.Connection.{needs_bytes}
use Rattle.tb_event_loop.specs.Deeds.{Acts, ActsAt, Begins, Deed, Did, Has, IsClose, IsRead, IsTurn, IsWrite, OwesBytes, done_in}
use Rattle.tb_event_loop.specs.Done.{Done, ends_in}
use Rattle.tb_event_loop.specs.Guesses.{debt_of, is_due, is_due_again, looked_at}
use Rattle.tb_event_loop.specs.Head.{begun}
use Rattle.tb_event_loop.specs.History.{Goes, GoesBy, Leaves}
use Rattle.tb_event_loop.specs.Noting.{IsNoted}
use Rattle.tb_event_loop.specs.Places.{Ends, HasTurn, IsAnswered, IsHeard, IsWritten, Spares, awaits, can_act, can_write_at, connection_in, has_room_at, has_turn_as, is_answering, is_leaving, is_over_at, is_read, is_turned_at, is_turned_in, may_answer_at, may_turn_of, stage_in}
use Rattle.tb_event_loop.specs.Rounds.{IsTurnOf, IsTurnOrEnd, Visits, VisitsNext, VisitsNextIf}
use Rattle.tb_event_loop.specs.Sharing.{is_put_back, with_cut}
use Rattle.tb_event_loop.specs.Sockets.{Called, Quietly}
use Rattle.tb_event_loop.specs.declared.connection.Connection.{Connection}
use Rattle.tb_event_loop.specs.declared.event_loop.EventLoop.{EventLoop}
use Rattle.tb_event_loop.specs.declared.places.Places.{Places}
use Rattle.tb_rooms.specs.Holding.{may_turn}
use Rattle.tb_rooms.specs.declared.holding.Hold.{Hold}
use Rattle.tb_rooms.specs.declared.holding.Rooms.{Rooms}
use Rattle.tb_rooms.specs.declared.rates.Rates.{Rates}
use Rattle.tb_timeouts.specs.Stage.{takes_bytes}
use Rattle.tb_timeouts.specs.declared.stage.Stage.{Stage}
use Rattle.tb_timeouts.specs.declared.stage.Stage.TheVariants.{Vacant, Idle, Heading, Reading, Waiting, Answering, Closing}
use Rattle.tb_event_loop.proofs.Acting.{acts_at_then, at_quiet, did_nothing}
use Rattle.tb_event_loop.proofs.Doing.{ends_among, leaves_none}
use Rattle.tb_event_loop.proofs.Sparing.{begun_spares, spares_same, spares_then}

pub has_append : (kind : Deed → Type 0) (xs ys : List Deed) → Has kind xs → Has kind (xs ++ ys)
has_append kind [] ys is = absurd is
has_append kind (x ∷ xs) ys (inl is) = inl is
has_append kind (x ∷ xs) ys (inr is) = inr (has_append kind xs ys is)

has_behind : (kind : Deed → Type 0) (xs ys : List Deed) → Has kind ys → Has kind (xs ++ ys)
has_behind kind [] ys is = is
has_behind kind (x ∷ xs) ys is = inr (has_behind kind xs ys is)

-- what holds behind what changed nothing holds before it
pub from_still : {N V : Type 0} (holds : Places → N → V → Type 0) (p q : Places) (n m : N) (v w : V) → q ≡ p → m ≡ n → w ≡ v → holds q m w → holds p n v
from_still {N = N} {V = V} holds p q n m v w same silent passed is =
    subst (λ (x : V). holds p n x) passed (subst (λ (k : N). holds p k w) silent (subst (λ (l : Places). holds l m w) same is))

-- ---- each of the three kinds is there or not, and with one there is no other

takes_or_answers : (stage : Stage) → takes_bytes stage ≡ true → is_answering stage ≡ true → ⊥
takes_or_answers Vacant takes answers = false≢true takes
takes_or_answers (Idle since) takes answers = false≢true answers
takes_or_answers (Heading begun) takes answers = false≢true answers
takes_or_answers (Reading begun) takes answers = false≢true answers
takes_or_answers (Waiting since) takes answers = false≢true answers
takes_or_answers (Answering since taken) takes answers = false≢true takes
takes_or_answers (Closing since reads) takes answers = false≢true takes

pub answers_or_awaits : (found : Option Connection) (is_read : Bool) → may_answer_at found ≡ true → awaits found is_read ≡ true → ⊥
answers_or_awaits None is_read may waits = false≢true may
answers_or_awaits (Some connection) is_read may waits =
    let needs = (and_parts (needs_bytes connection) is_read waits).0 in
    let able = and_parts (connection.can_read && not connection.may_answer) (not connection.has_ended) needs in
    let none = (and_parts connection.can_read (not connection.may_answer) able.0).1 in
    both_ways connection.may_answer (not-true connection.may_answer none) may

awaits_read : (found : Option Connection) (is_read : Bool) → awaits found is_read ≡ true → is_read ≡ true
awaits_read None is_read waits = absurd (false≢true waits)
awaits_read (Some connection) is_read waits = (and_parts (needs_bytes connection) is_read waits).1

module _ (files : List ℕ → Bool) (places : Places) (place now : ℕ) (held owed : List ℕ) where
  answered_alone : IsAnswered files places place now held → IsWritten places place owed → ⊥
  answered_alone one other = takes_or_answers (stage_in places place) one.1 other.1

  heard_takes : IsHeard places place → takes_bytes (stage_in places place) ≡ true
  heard_takes is =
      let found = connection_in places place in
      (and_parts (takes_bytes (stage_in places place)) _ (awaits_read found (is_read places place) is.1)).0

  heard_alone : IsHeard places place → IsWritten places place owed → ⊥
  heard_alone one other = takes_or_answers (stage_in places place) (heard_takes one) other.1

  answered_or_heard : IsAnswered files places place now held → IsHeard places place → ⊥
  answered_or_heard one other = answers_or_awaits (connection_in places place) (is_read places place) one.2 other.1

  is_answered_or_not : (IsAnswered files places place now held) ⊎ (IsAnswered files places place now held → ⊥)
  is_answered_or_not = by_each (cases_Bool (is_leaving (connection_in places place))) (cases_Bool (takes_bytes (stage_in places place)))
      (cases_Bool (may_answer_at (connection_in places place))) (cases_Bool (is_turned_in files places place now held))
    where
      by_each : {a b c d : Bool} → (a ≡ true) ⊎ (a ≡ false) → (b ≡ true) ⊎ (b ≡ false) → (c ≡ true) ⊎ (c ≡ false) → (d ≡ true) ⊎ (d ≡ false)
          → ((a ≡ false) × (b ≡ true) × (c ≡ true) × (d ≡ true)) ⊎ ((a ≡ false) × (b ≡ true) × (c ≡ true) × (d ≡ true) → ⊥)
      by_each {a = a} (inl is) b c d = inr (λ all. both_ways a all.0 is)
      by_each {b = b} (inr isnt) (inr is) c d = inr (λ all. both_ways b is all.1)
      by_each {c = c} (inr isnt) (inl is) (inr none) d = inr (λ all. both_ways c none all.2)
      by_each {d = d} (inr isnt) (inl is) (inl one) (inr none) = inr (λ all. both_ways d none all.3)
      by_each (inr isnt) (inl is) (inl one) (inl more) = inl (isnt, is, one, more)

  owes_or_not : (bytes : List ℕ) → OwesBytes bytes ⊎ (OwesBytes bytes → ⊥)
  owes_or_not [] = inr (λ owes. owes)
  owes_or_not (byte ∷ bytes) = inl tt

  is_written_or_not : (IsWritten places place owed) ⊎ (IsWritten places place owed → ⊥)
  is_written_or_not = by_each (cases_Bool (is_leaving (connection_in places place))) (cases_Bool (is_answering (stage_in places place)))
      (cases_Bool (can_write_at (connection_in places place))) (owes_or_not owed)
    where
      by_each : {a b c : Bool} {P : Type 0} → (a ≡ true) ⊎ (a ≡ false) → (b ≡ true) ⊎ (b ≡ false) → (c ≡ true) ⊎ (c ≡ false) → P ⊎ (P → ⊥)
          → ((a ≡ false) × (b ≡ true) × (c ≡ true) × P) ⊎ ((a ≡ false) × (b ≡ true) × (c ≡ true) × P → ⊥)
      by_each {a = a} (inl is) b c d = inr (λ all. both_ways a all.0 is)
      by_each {b = b} (inr isnt) (inr is) c d = inr (λ all. both_ways b is all.1)
      by_each {c = c} (inr isnt) (inl is) (inr none) d = inr (λ all. both_ways c none all.2)
      by_each (inr isnt) (inl is) (inl one) (inr none) = inr (λ all. none all.3)
      by_each (inr isnt) (inl is) (inl one) (inl more) = inl (isnt, is, one, more)

  is_heard_or_not : (IsHeard places place) ⊎ (IsHeard places place → ⊥)
  is_heard_or_not = by_each (cases_Bool (is_leaving (connection_in places place))) (cases_Bool (awaits (connection_in places place) (is_read places place)))
    where
      by_each : {a b : Bool} → (a ≡ true) ⊎ (a ≡ false) → (b ≡ true) ⊎ (b ≡ false) → ((a ≡ false) × (b ≡ true)) ⊎ ((a ≡ false) × (b ≡ true) → ⊥)
      by_each {a = a} (inl is) b = inr (λ all. both_ways a all.0 is)
      by_each {b = b} (inr isnt) (inr is) = inr (λ all. both_ways b is all.1)
      by_each (inr isnt) (inl is) = inl (isnt, is)

  module _ {S : Type 0} (acts : Bool → List Deed → S → S → Type 0) (stopped : Bool) (a b : S) where
    abbrev TurnOf : Type 0
    TurnOf = (deeds : List Deed) × acts stopped deeds a b × (ends_in (done_in deeds) ≡ 0) × IsTurnOf files places place now held owed deeds

    turn_by : Did acts stopped 0 a b
        → (IsAnswered files places place now held → Begins acts stopped (IsTurn place) a b)
        → (IsWritten places place owed → Begins acts stopped (IsWrite place) a b)
        → (IsHeard places place → Begins acts stopped (IsRead place) a b)
        → (IsAnswered files places place now held) ⊎ (IsAnswered files places place now held → ⊥)
        → (IsWritten places place owed) ⊎ (IsWritten places place owed → ⊥)
        → (IsHeard places place) ⊎ (IsHeard places place → ⊥) → TurnOf
    turn_by did turn write read (inl is) written heard =
        let begins = turn is in (
          begins.first ∷ begins.more,
          begins.done,
          begins.ends,
          record { answered = λ due. inl begins.is; written = λ due. absurd (answered_alone is due); heard = λ due. absurd (answered_or_heard is due) },
        )
    turn_by did turn write read (inr no_turn) (inl is) heard =
        let begins = write is in (
          begins.first ∷ begins.more,
          begins.done,
          begins.ends,
          record { answered = λ due. absurd (no_turn due); written = λ due. inl begins.is; heard = λ due. absurd (heard_alone due is) },
        )
    turn_by did turn write read (inr no_turn) (inr no_write) (inl is) =
        let begins = read is in (
          begins.first ∷ begins.more,
          begins.done,
          begins.ends,
          record { answered = λ due. absurd (no_turn due); written = λ due. absurd (no_write due); heard = λ due. inl begins.is },
        )
    turn_by did turn write read (inr no_turn) (inr no_write) (inr no_read) = (
      did.deeds,
      did.done,
      did.ends,
      record { answered = λ due. absurd (no_turn due); written = λ due. absurd (no_write due); heard = λ due. absurd (no_read due) },
    )

    turn_of : Did acts stopped 0 a b
        → (IsAnswered files places place now held → Begins acts stopped (IsTurn place) a b)
        → (IsWritten places place owed → Begins acts stopped (IsWrite place) a b)
        → (IsHeard places place → Begins acts stopped (IsRead place) a b) → TurnOf
    turn_of did turn write read = turn_by did turn write read is_answered_or_not is_written_or_not is_heard_or_not

    -- no connection ended, and this one doesn't leave
    pub turn_on : (limit : Option ℕ) → Leaves limit 0 limit → (is_leaving (connection_in places place) ≡ true → ⊥) → Did acts stopped 0 a b
        → (IsAnswered files places place now held → Begins acts stopped (IsTurn place) a b)
        → (IsWritten places place owed → Begins acts stopped (IsWrite place) a b)
        → (IsHeard places place → Begins acts stopped (IsRead place) a b)
        → GoesBy acts stopped (IsTurnOrEnd files places place now held owed limit) limit limit a b
    turn_on limit leaves stays did turn write read =
        let is = turn_of did turn write read in
        record { deeds = is.0; done = is.1; says = (is.3, λ leaving limited. absurd (stays leaving)); left = subst (λ (n : ℕ). Leaves limit n limit) (sym is.2) leaves }

  turn_longer : (xs ys : List Deed) → IsTurnOf files places place now held owed xs → IsTurnOf files places place now held owed (xs ++ ys)
  turn_longer xs ys is = record {
    answered = λ due. has_append (IsTurn place) xs ys (is.answered due);
    written = λ due. has_append (IsWrite place) xs ys (is.written due);
    heard = λ due. has_append (IsRead place) xs ys (is.heard due);
  }

  -- and then it left
  pub turn_then : {S : Type 0} (acts : Bool → List Deed → S → S → Type 0)
      → ((stopped : Bool) (first more : List Deed) (a b c : S) → acts false first a b → acts stopped more b c → acts stopped (first ++ more) a c)
      → (stopped : Bool) (before later : Option ℕ) (a b c : S)
      → Did acts false 0 a b
      → (IsAnswered files places place now held → Begins acts false (IsTurn place) a b)
      → (IsWritten places place owed → Begins acts false (IsWrite place) a b)
      → (IsHeard places place → Begins acts false (IsRead place) a b)
      → GoesBy acts stopped (λ deeds. before ≢ Some 0 → Has (IsClose place) deeds) before later b c
      → GoesBy acts stopped (IsTurnOrEnd files places place now held owed before) before later a c
  turn_then acts joined stopped before later a b c did turn write read more =
      let is = turn_of acts false a b did turn write read in
      let size : ends_in (done_in more.deeds) ≡ ends_in (done_in (is.0 ++ more.deeds)) = omega (arith, ends_among is.0 more.deeds, is.2) in
      record {
        deeds = is.0 ++ more.deeds;
        done = joined stopped is.0 more.deeds a b c is.1 more.done;
        says = (turn_longer is.0 more.deeds is.3, λ leaving limited. has_behind (IsClose place) is.0 more.deeds (more.says limited));
        left = subst (λ (n : ℕ). Leaves before n later) size more.left;
      }

-- ---- what a visit comes to

turn_behind : (files : List ℕ → Bool) (places : Places) (place now : ℕ) (held owed : List ℕ) (xs ys : List Deed)
    → IsTurnOf files places place now held owed ys → IsTurnOf files places place now held owed (xs ++ ys)
turn_behind files places place now held owed xs ys is = record {
  answered = λ due. has_behind (IsTurn place) xs ys (is.answered due);
  written = λ due. has_behind (IsWrite place) xs ys (is.written due);
  heard = λ due. has_behind (IsRead place) xs ys (is.heard due);
}

not_is : (b : Bool) → b ≡ false → not b ≡ true
not_is true is = absurd (false≢true (sym is))
not_is false is = refl

-- a message that is due gives its connection a turn
due_may_turn : (files : List ℕ → Bool) (rates : Rates) (rooms : Rooms) (holds : List Hold) (held : List ℕ) (now : ℕ) (connection : Connection) (asked : Bool) → connection.has_asked ≡ asked
    → is_turned_at files rates rooms holds held now (Some connection) ≡ true
    → (not connection.has_asked || (nat_le connection.due now && may_turn rooms connection.owner holds)) ≡ true
unfolding is_due looked_at
due_may_turn files rates rooms holds held now connection false is turned =
    or_left (not connection.has_asked) (nat_le connection.due now && may_turn rooms connection.owner holds) (not_is connection.has_asked is)
due_may_turn files rates rooms holds held now connection true is turned =
    let both = and_parts (is_due files rates held now connection) (has_room_at rooms holds (Some (looked_at files rates held now connection))) turned in
    let due : is_due_again rates (begun held) now connection ≡ true = rw is at both.0 in
    let parts = and_parts (nat_le connection.due now) (debt_of rates (begun held) now == 0) due in
    let looked : looked_at files rates held now connection ≡ connection = rw is (rw parts.0 (rw parts.1 refl)) in
    let room : (not connection.has_asked || may_turn rooms connection.owner holds) ≡ true =
    subst (λ (k : Connection). has_room_at rooms holds (Some k) ≡ true) looked both.1 in
    let turn : may_turn rooms connection.owner holds ≡ true = rw is at room in
    or_right (not connection.has_asked) (nat_le connection.due now && may_turn rooms connection.owner holds)
    (and_from (nat_le connection.due now) (may_turn rooms connection.owner holds) parts.0 turn)

can_by : (places : Places) (place now : ℕ) (connection : Connection) (stage : Stage) → takes_bytes stage ≡ true
    → ((connection.may_answer && may_turn_of places connection now) || (needs_bytes connection && is_read places place)) ≡ true
    → can_act places place now connection stage ≡ true
can_by places place now connection Vacant takes is = absurd (false≢true takes)
can_by places place now connection (Idle since) takes is = is
can_by places place now connection (Heading begun) takes is = is
can_by places place now connection (Reading begun) takes is = is
can_by places place now connection (Waiting since) takes is = is
can_by places place now connection (Answering since taken) takes is = absurd (false≢true takes)
can_by places place now connection (Closing since reads) takes is = absurd (false≢true takes)

answered_has : (files : List ℕ → Bool) (places : Places) (place now : ℕ) (held : List ℕ) (found : Option Connection) → takes_bytes (stage_in places place) ≡ true
    → may_answer_at found ≡ true → is_turned_at files places.rates places.rooms places.holds.items held now found ≡ true
    → has_turn_as places place now (stage_in places place) found ≡ true
answered_has files places place now held None takes may turned = absurd (false≢true may)
answered_has files places place now held (Some connection) takes may turned =
    or_right connection.is_gone (can_act places place now connection (stage_in places place))
    (can_by places place now connection (stage_in places place) takes
    (or_left (connection.may_answer && may_turn_of places connection now) (needs_bytes connection && is_read places place)
    (and_from connection.may_answer (may_turn_of places connection now) may
    (due_may_turn files places.rates places.rooms places.holds.items held now connection connection.has_asked refl turned))))

written_has : (places : Places) (place now : ℕ) (found : Option Connection) (stage : Stage) → is_answering stage ≡ true → can_write_at found ≡ true
    → has_turn_as places place now stage found ≡ true
written_has places place now None stage answers can = absurd (false≢true can)
written_has places place now (Some connection) Vacant answers can = absurd (false≢true answers)
written_has places place now (Some connection) (Idle since) answers can = absurd (false≢true answers)
written_has places place now (Some connection) (Heading begun) answers can = absurd (false≢true answers)
written_has places place now (Some connection) (Reading begun) answers can = absurd (false≢true answers)
written_has places place now (Some connection) (Waiting since) answers can = absurd (false≢true answers)
written_has places place now (Some connection) (Answering since taken) answers can = or_right connection.is_gone connection.can_write can
written_has places place now (Some connection) (Closing since reads) answers can = absurd (false≢true answers)

heard_has : (places : Places) (place now : ℕ) (found : Option Connection) → takes_bytes (stage_in places place) ≡ true → awaits found (is_read places place) ≡ true
    → has_turn_as places place now (stage_in places place) found ≡ true
heard_has places place now None takes waits = absurd (false≢true waits)
heard_has places place now (Some connection) takes waits =
    or_right connection.is_gone (can_act places place now connection (stage_in places place))
    (can_by places place now connection (stage_in places place) takes
    (or_right (connection.may_answer && may_turn_of places connection now) (needs_bytes connection && is_read places place) waits))

-- where it has no turn there is nothing to do
no_turn : (files : List ℕ → Bool) (places : Places) (place now : ℕ) (held owed : List ℕ) (deeds : List Deed) → (HasTurn places place now → ⊥)
    → IsTurnOf files places place now held owed deeds
no_turn files places place now held owed deeds none = record {
  answered = λ is. absurd (none (answered_has files places place now held (connection_in places place) is.1 is.2 is.3));
  written = λ is. absurd (none (written_has places place now (connection_in places place) (stage_in places place) is.1 is.2));
  heard = λ is. absurd (none (heard_has places place now (connection_in places place) (heard_takes files places place now held owed is) is.1));
}

-- one that leaves has a turn
leaving_has : (places : Places) (place now : ℕ) (found : Option Connection) → is_leaving found ≡ true → has_turn_as places place now (stage_in places place) found ≡ true
leaving_has places place now None leaves = absurd (false≢true leaves)
leaving_has places place now (Some connection) leaves = or_left connection.is_gone (can_act places place now connection (stage_in places place)) leaves

module _ {N V : Type 0} (asks : List Called → N → N → Type 0) (happens : Bool → List (ℕ × Done) → V → V → Type 0)
    (files : V → List ℕ → Bool) (held owed : V → ℕ → List ℕ) (wants : V → ℕ → ℕ → Type 0) where
  pub unvisited : ((n : N) → asks [] n n) → (place : ℕ) (before : EventLoop) (placed : Places) (n m : N) (v : V)
      → (IsTrue (is_over_at before.places place before.now) ⊎ HasTurn before.places place before.now → ⊥)
      → (is_over_at before.places place before.now ≡ false → placed ≡ before.places) → (is_over_at before.places place before.now ≡ false → m ≡ n)
      → Visits asks happens files held owed wants false place before (record before { places = placed }) (n, v) (m, v)
  unvisited unchanged place before placed n m v none same silent =
      let over : is_over_at before.places place before.now ≡ false = not_over (cases_Bool (is_over_at before.places place before.now)) in
      let stays : record before { places = placed } ≡ before = ap (λ (p : Places). record before { places = p }) (same over) in
      let still : (m, v) ≡ (n, v) = ap (λ (k : N). (k, v)) (silent over) in
      subst (λ (later : N × V). Visits asks happens files held owed wants false place before (record before { places = placed }) (n, v) later) (sym still)
      (subst (λ (later : EventLoop). Visits asks happens files held owed wants false place before later (n, v) (n, v)) (sym stays) (record {
        deeds = [];
        done = ((unchanged n, refl), tt);
        left = leaves_none before.still_to_end before.still_to_end refl;
        turned = λ isnt. (
          no_turn (files v) before.places place before.now (held v place) (owed v place) [] (λ is. none (inr is)),
          λ leaves limited. absurd (none (inr (leaving_has before.places place before.now (connection_in before.places place) leaves))),
        );
        passed = λ isnt nothing. (refl, refl);
        noted = λ goes has. absurd (none has);
        freed = λ goes. not_leaving (cases_Bool (is_leaving (connection_in before.places place)));
        others = spares_same place before.places before.places refl;
        moment = refl;
      }))
    where
      not_over : (is_over_at before.places place before.now ≡ true) ⊎ (is_over_at before.places place before.now ≡ false) → is_over_at before.places place before.now ≡ false
      not_over (inl is) = absurd (none (inl is))
      not_over (inr isnt) = isnt

      not_leaving : (is_leaving (connection_in before.places place) ≡ true) ⊎ (is_leaving (connection_in before.places place) ≡ false) → is_leaving (connection_in before.places place) ≡ false
      not_leaving (inl leaves) = absurd (none (inr (leaving_has before.places place before.now (connection_in before.places place) leaves)))
      not_leaving (inr stays) = stays

  no_way : {A B : Type 0} (P : Type 0) → A ⊎ B → (A → ⊥) → (B → ⊥) → P
  no_way P (inl is) one other = absurd (one is)
  no_way P (inr is) one other = absurd (other is)

  pub visited : ((first more : List Called) (a b c : N) → asks first a b → asks more b c → asks (first ++ more) a c)
      → (stopped : Bool) (place : ℕ) (before after : EventLoop) (placed turned : Places) (n m : N) (v : V) (end : N × V) (still : Option ℕ)
      → IsTrue (is_over_at before.places place before.now) ⊎ HasTurn before.places place before.now
      → (is_over_at before.places place before.now ≡ true → Ends before.places placed place before.now)
      → (is_over_at before.places place before.now ≡ false → placed ≡ before.places)
      → Quietly asks n m
      → GoesBy (ActsAt place asks happens owed) stopped (IsTurnOrEnd (files v) placed place before.now (held v place) (owed v place) before.still_to_end) before.still_to_end still (m, v) end
      → after.still_to_end ≡ still → Spares place placed turned → Spares place turned after.places → after.now ≡ before.now
      → (stopped ≡ false → IsNoted wants owed place before after end.1)
      → (stopped ≡ false → is_leaving (connection_in after.places place) ≡ false)
      → Visits asks happens files held owed wants stopped place before after (n, v) end
  visited joined stopped place before after placed turned n m v end still has ends same quiet turn left spares more moment noted freed =
      let first = at_quiet asks happens owed place n m v quiet in
      let size : ends_in (done_in turn.deeds) ≡ ends_in (done_in (first.deeds ++ turn.deeds)) = omega (arith, ends_among first.deeds turn.deeds, first.ends) in
      record {
        deeds = first.deeds ++ turn.deeds;
        done = acts_at_then asks happens owed place joined stopped first.deeds turn.deeds (n, v) (m, v) end first.done turn.done;
        left = subst (λ (o : Option ℕ). Leaves before.still_to_end (ends_in (done_in (first.deeds ++ turn.deeds))) o) (sym left)
            (subst (λ (count : ℕ). Leaves before.still_to_end count still) size turn.left);
        turned = λ isnt.
            let says = subst (λ (p : Places). IsTurnOrEnd (files v) p place before.now (held v place) (owed v place) before.still_to_end turn.deeds) (same isnt) turn.says in (
              turn_behind (files v) before.places place before.now (held v place) (owed v place) first.deeds turn.deeds says.0,
              λ leaves limited. has_behind (IsClose place) first.deeds turn.deeds (says.1 leaves limited),
            );
        passed = λ isnt nothing. no_way ((after ≡ before) × (end ≡ (n, v))) has (λ over. both_ways (is_over_at before.places place before.now) isnt over) nothing;
        noted = λ goes had. noted goes;
        freed = freed;
        others = spares_then place before.places placed after.places
            (begun_spares place before.places placed before.now ends same (cases_Bool (is_over_at before.places place before.now)))
            (spares_then place placed turned after.places spares more);
        moment = moment;
      }

  -- ---- the next place of a round

  pub next_put_back : (stopped : Bool) (place : ℕ) (before after : EventLoop) (old new : N × V) → is_put_back before.places place before.now ≡ true
      → stopped ≡ false → new ≡ old → after ≡ record before { places = with_cut before.places place }
      → VisitsNext asks happens files held owed wants stopped place before after old new
  next_put_back stopped place before after old new is goes same cut =
      subst (λ (b : Bool). VisitsNextIf asks happens files held owed wants b stopped place before after old new) (sym is) (goes, same, cut)

  pub next_visited : (stopped : Bool) (place : ℕ) (before after : EventLoop) (old new : N × V) → is_put_back before.places place before.now ≡ false
      → Visits asks happens files held owed wants stopped place before after old new
      → VisitsNext asks happens files held owed wants stopped place before after old new
  next_visited stopped place before after old new isnt visits =
      subst (λ (b : Bool). VisitsNextIf asks happens files held owed wants b stopped place before after old new) (sym isnt) visits

  first_if : (put_back stopped : Bool) (place : ℕ) (before after : EventLoop) (old new : N × V)
      → VisitsNextIf asks happens files held owed wants put_back stopped place before after old new → after.places.first ≡ before.places.first
  first_if true stopped place before after old new is = ap (λ (l : EventLoop). l.places.first) is.2
  first_if false stopped place before after old new is = is.others.first

  pub next_first : (stopped : Bool) (place : ℕ) (before after : EventLoop) (old new : N × V)
      → VisitsNext asks happens files held owed wants stopped place before after old new → after.places.first ≡ before.places.first
  next_first stopped place before after old new is = first_if (is_put_back before.places place before.now) stopped place before after old new is

  goes_if : ((n : N) → asks [] n n) → (put_back stopped : Bool) (place : ℕ) (before after : EventLoop) (old new : N × V)
      → VisitsNextIf asks happens files held owed wants put_back stopped place before after old new
      → Goes (Acts asks happens owed) stopped before.still_to_end after.still_to_end old new
  goes_if unchanged true stopped place before after old new is =
      subst (λ (b : Bool). Goes (Acts asks happens owed) b before.still_to_end after.still_to_end old new) (sym is.0)
      (subst (λ (later : N × V). Goes (Acts asks happens owed) false before.still_to_end after.still_to_end old later) (sym is.1)
      (0, did_nothing asks happens owed unchanged old.0 old.1, leaves_none before.still_to_end after.still_to_end (ap (λ (l : EventLoop). l.still_to_end) is.2)))
  goes_if unchanged false stopped place before after old new is =
      (ends_in (done_in is.deeds), record { deeds = is.deeds; done = is.done.0; ends = refl }, is.left)

  pub next_goes : ((n : N) → asks [] n n) → (stopped : Bool) (place : ℕ) (before after : EventLoop) (old new : N × V)
      → VisitsNext asks happens files held owed wants stopped place before after old new
      → Goes (Acts asks happens owed) stopped before.still_to_end after.still_to_end old new
  next_goes unchanged stopped place before after old new is =
      goes_if unchanged (is_put_back before.places place before.now) stopped place before after old new is
