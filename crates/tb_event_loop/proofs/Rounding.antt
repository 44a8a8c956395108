-- Each place is visited once in a round.
use Rattle.std.proofs.Common.{◌≡◌, ℕ, zero, suc, ◌+◌, ◌-◌, ◌<◌, ◌≤◌, Bool, true, false, cond, List, [], ◌∷◌, ◌++◌, refl, sym, ap, ◌∙◌, subst, inl, inr, arith}
use Rattle.std.specs.Prelude.{◌⊎◌, ◌==◌}
use Rattle.std.proofs.lemmas.Bool.{cases_eq, cases_lt, le-ltb, lt-ltb, ne_eqb}
use Rattle.tb_event_loop.specs.Deeds.{Acts, AreAt, AreElsewhere, Deed, done_in}
use Rattle.tb_event_loop.specs.Done.{Done}
use Rattle.tb_event_loop.specs.Places.{Spares, connection_in, hold_in, stage_in}
use Rattle.tb_event_loop.specs.Rounds.{IsAsBefore, IsVisited, VisitsEach, VisitsNext, VisitsNextIf}
use Rattle.tb_event_loop.specs.Sharing.{is_put_back, place_from, with_cut}
use Rattle.tb_event_loop.specs.Sockets.{Called}
use Rattle.tb_event_loop.specs.declared.event_loop.EventLoop.{EventLoop}
use Rattle.tb_event_loop.proofs.Acting.{acts_then}
use Rattle.tb_event_loop.proofs.Doing.{done_append}

elsewhere_append : (place : ℕ) (xs ys : List (ℕ × Done)) → AreElsewhere place xs → AreElsewhere place ys → AreElsewhere place (xs ++ ys)
elsewhere_append place [] ys first more = more
elsewhere_append place (x ∷ xs) ys first more = (first.0, elsewhere_append place xs ys first.1 more)

elsewhere_at : (place other : ℕ) (xs : List (ℕ × Done)) → (other == place) ≡ false → AreAt other xs → AreElsewhere place xs
elsewhere_at place other [] differs are = tt
elsewhere_at place other (x ∷ xs) differs are = (ap (λ (n : ℕ). n == place) are.0 ∙ differs, elsewhere_at place other xs differs are.1)

-- ---- the step of a place

step_ahead : (first step end : ℕ) → step < end - first → place_from first step end ≡ first + step
step_ahead first step end ahead = ap (λ b. cond b (first + step) (step - (end - first))) (lt-ltb step (end - first) ahead)

step_behind : (first step end : ℕ) → end - first ≤ step → place_from first step end ≡ step - (end - first)
step_behind first step end behind = ap (λ b. cond b (first + step) (step - (end - first))) (le-ltb step (end - first) behind)

place_ahead : (first end place : ℕ) → place < end → first ≤ place → place_from first (place - first) end ≡ place
place_ahead first end place below back =
    let is = step_ahead first (place - first) end (omega (arith, below, back)) in omega (arith, is, back)

place_behind : (first end place : ℕ) → first ≤ end → place < first → place_from first (place + (end - first)) end ≡ place
place_behind first end place within front =
    let is = step_behind first (place + (end - first)) end (omega arith) in omega (arith, is)

other_by : (first end place other : ℕ) → (other < end - first) ⊎ (end - first ≤ other) → (other < end - first → first + other ≡ place → ⊥)
    → (end - first ≤ other → other - (end - first) ≡ place → ⊥) → (place_from first other end == place) ≡ false
other_by first end place other (inl ahead) one more = ne_eqb (place_from first other end) place (λ same. one ahead (sym (step_ahead first other end ahead) ∙ same))
other_by first end place other (inr behind) one more = ne_eqb (place_from first other end) place (λ same. more behind (sym (step_behind first other end behind) ∙ same))

other_ahead : (first end place other : ℕ) → place < end → first ≤ place → other < end → (other ≡ place - first → ⊥) → (place_from first other end == place) ≡ false
other_ahead first end place other below back inside isnt =
    other_by first end place other (cases_lt other (end - first)) (λ ahead same. isnt (omega (arith, same))) (λ behind same. omega (arith, behind, same, back, inside))

other_behind : (first end place other : ℕ) → first ≤ end → place < first → other < end → (other ≡ place + (end - first) → ⊥) → (place_from first other end == place) ≡ false
other_behind first end place other within front inside isnt =
    other_by first end place other (cases_lt other (end - first)) (λ ahead same. omega (arith, same, front)) (λ behind same. isnt (omega (arith, behind, same)))

module _ {N V : Type 0} (asks : List Called → N → N → Type 0) (happens : Bool → List (ℕ × Done) → V → V → Type 0)
    (files : V → List ℕ → Bool) (held owed : V → ℕ → List ℕ) (wants : V → ℕ → ℕ → Type 0) (unchanged : (n : N) → asks [] n n)
    (joined : (first more : List Called) (a b c : N) → asks first a b → asks more b c → asks (first ++ more) a c) where
  -- things were done elsewhere, and this place is as it was
  record Passes (place : ℕ) (before after : EventLoop) (old new : N × V) : Type 0 where
    deeds : List Deed
    done : Acts asks happens owed false deeds old new
    elsewhere : AreElsewhere place (done_in deeds)
    same : IsAsBefore place before after

  as_is : (place : ℕ) (before after : EventLoop) → after ≡ before → IsAsBefore place before after
  as_is place before after same = record {
    connection = ap (λ (l : EventLoop). connection_in l.places place) same;
    stage = ap (λ (l : EventLoop). stage_in l.places place) same;
    hold = ap (λ (l : EventLoop). hold_in l.places place) same;
    rooms = ap (λ (l : EventLoop). l.places.rooms) same;
    limits = ap (λ (l : EventLoop). l.places.limits) same;
    moment = ap (λ (l : EventLoop). l.now) same;
  }

  as_then : (place : ℕ) (before between after : EventLoop) → IsAsBefore place before between → IsAsBefore place between after → IsAsBefore place before after
  as_then place before between after one more = record {
    connection = more.connection ∙ one.connection;
    stage = more.stage ∙ one.stage;
    hold = more.hold ∙ one.hold;
    rooms = more.rooms ∙ one.rooms;
    limits = more.limits ∙ one.limits;
    moment = more.moment ∙ one.moment;
  }

  as_spared : (place other : ℕ) (before after : EventLoop) → (other == place) ≡ false → Spares other before.places after.places → after.now ≡ before.now
      → IsAsBefore place before after
  as_spared place other before after differs spares moment = record {
    connection = spares.connections place differs;
    stage = spares.stages place differs;
    hold = spares.holds place differs;
    rooms = spares.rooms;
    limits = spares.limits;
    moment = moment;
  }

  passes_none : (place : ℕ) (before after : EventLoop) (old new : N × V) → after ≡ before → new ≡ old → Passes place before after old new
  passes_none place before after old new same still =
      subst (λ (later : N × V). Passes place before after old later) (sym still)
      (record { deeds = []; done = (unchanged old.0, refl); elsewhere = tt; same = as_is place before after same })

  passes_then : (place : ℕ) (before between after : EventLoop) (old middle new : N × V) → Passes place before between old middle
      → Passes place between after middle new → Passes place before after old new
  passes_then place before between after old middle new one more = record {
    deeds = one.deeds ++ more.deeds;
    done = acts_then asks happens owed joined false one.deeds more.deeds old middle new one.done more.done;
    elsewhere = subst (AreElsewhere place) (sym (done_append one.deeds more.deeds)) (elsewhere_append place (done_in one.deeds) (done_in more.deeds) one.elsewhere more.elsewhere);
    same = as_then place before between after one.same more.same;
  }

  passes_if : (put_back : Bool) (place other : ℕ) (before after : EventLoop) (old new : N × V) → (other == place) ≡ false
      → VisitsNextIf asks happens files held owed wants put_back false other before after old new → Passes place before after old new
  passes_if true place other before after old new differs is =
      subst (λ (later : EventLoop). Passes place before later old new) (sym is.2)
      (subst (λ (later : N × V). Passes place before (record before { places = with_cut before.places other }) old later) (sym is.1) (record {
        deeds = [];
        done = (unchanged old.0, refl);
        elsewhere = tt;
        same = record { connection = refl; stage = refl; hold = refl; rooms = refl; limits = refl; moment = refl };
      }))
  passes_if false place other before after old new differs is = record {
    deeds = is.deeds;
    done = is.done.0;
    elsewhere = elsewhere_at place other (done_in is.deeds) differs is.done.1;
    same = as_spared place other before after differs is.others is.moment;
  }

  passes_next : (place other : ℕ) (before after : EventLoop) (old new : N × V) → (other == place) ≡ false
      → VisitsNext asks happens files held owed wants false other before after old new → Passes place before after old new
  passes_next place other before after old new differs is =
      passes_if (is_put_back before.places other before.now) place other before after old new differs is

  passes_each : (first end place count : ℕ) (before after : EventLoop) (old new : N × V) → ((step : ℕ) → step < count → (place_from first step end == place) ≡ false)
      → VisitsEach asks happens files held owed wants first end count before after old new → Passes place before after old new
  passes_each first end place zero before after old new differs is = passes_none place before after old new is.0 is.1
  passes_each first end place (suc count) before after old new differs is =
      passes_then place before is.0 after old is.1 new
      (passes_each first end place count before is.0 old is.1 (λ step below. differs step (omega (arith, below))) is.2)
      (passes_next place (place_from first count end) is.0 after is.1 new (differs count (omega arith)) is.3)

  -- the place of the last step, or of one before it
  visits_last : (first end place step count : ℕ) (before between after : EventLoop) (old middle new : N × V) → step < suc count → place_from first step end ≡ place
      → ((other : ℕ) → other < suc count → (other ≡ step → ⊥) → (place_from first other end == place) ≡ false)
      → VisitsEach asks happens files held owed wants first end count before between old middle
      → VisitsNext asks happens files held owed wants false (place_from first count end) between after middle new
      → (step < count → IsVisited asks happens files held owed wants place before old middle)
      → (step ≡ count) ⊎ (step ≡ count → ⊥) → IsVisited asks happens files held owed wants place before old new
  visits_last first end place step count before between after old middle new below at differs each last earlier (inl is) =
      let passed = passes_each first end place count before between old middle (λ other inside. differs other (omega (arith, inside)) (λ same. omega (arith, inside, same, is))) each in
      record {
        at = between;
        later = after;
        begin = middle;
        end = new;
        front = passed.deeds;
        back = [];
        came = passed.done;
        went = (unchanged new.0, refl);
        alone_before = passed.elsewhere;
        alone_behind = tt;
        same = passed.same;
        visit = subst (λ (p : ℕ). VisitsNext asks happens files held owed wants false p between after middle new) (ap (λ (s : ℕ). place_from first s end) (sym is) ∙ at) last;
      }
  visits_last first end place step count before between after old middle new below at differs each last earlier (inr isnt) =
      let one = earlier (omega (arith, below, isnt)) in
      let passed = passes_next place (place_from first count end) between after middle new (differs count (omega arith) (λ same. isnt (sym same))) last in
      record {
        at = one.at;
        later = one.later;
        begin = one.begin;
        end = one.end;
        front = one.front;
        back = one.back ++ passed.deeds;
        came = one.came;
        went = acts_then asks happens owed joined false one.back passed.deeds one.end middle new one.went passed.done;
        alone_before = one.alone_before;
        alone_behind = subst (AreElsewhere place) (sym (done_append one.back passed.deeds))
            (elsewhere_append place (done_in one.back) (done_in passed.deeds) one.alone_behind passed.elsewhere);
        same = one.same;
        visit = one.visit;
      }

  -- the place of one of the steps, which is that of no other
  visits_one : (first end place step count : ℕ) (before after : EventLoop) (old new : N × V) → step < count → place_from first step end ≡ place
      → ((other : ℕ) → other < count → (other ≡ step → ⊥) → (place_from first other end == place) ≡ false)
      → VisitsEach asks happens files held owed wants first end count before after old new → IsVisited asks happens files held owed wants place before old new
  visits_one first end place step zero before after old new below at differs is = absurd (omega (arith, below))
  visits_one first end place step (suc count) before after old new below at differs is =
      visits_last first end place step count before is.0 after old is.1 new below at differs is.2 is.3
      (λ earlier. visits_one first end place step count before is.0 old is.1 earlier at (λ other inside. differs other (omega (arith, inside))) is.2)
      (cases_eq step count)

  pub visits_all : (first end place : ℕ) (before after : EventLoop) (old new : N × V) → first ≤ end → place < end
      → VisitsEach asks happens files held owed wants first end end before after old new → IsVisited asks happens files held owed wants place before old new
  visits_all first end place before after old new within below is = by_part (cases_lt place first)
    where
      by_part : (place < first) ⊎ (first ≤ place) → IsVisited asks happens files held owed wants place before old new
      by_part (inl front) = visits_one first end place (place + (end - first)) end before after old new (omega (arith, front, within)) (place_behind first end place within front) (λ other inside isnt. other_behind first end place other within front inside isnt) is
      by_part (inr back) = visits_one first end place (place - first) end before after old new (omega (arith, back, below)) (place_ahead first end place below back) (λ other inside isnt. other_ahead first end place other below back inside isnt) is
