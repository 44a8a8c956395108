-- A run of the loop, round by round.
use Rattle.std.specs.Prelude.{◌≡◌, ◌⊎◌, ◌||◌, ℕ, zero, suc, ◌-◌, ◌^◌, Bool, true, false, List, [], ◌∷◌, Result, Ok, Err}
use Rattle.tb_event_loop.specs.Arrivals.{StaysReady, TriesToAccept, may_accept, tells_listener, told_of}
use Rattle.tb_event_loop.specs.Done.{Done}
use Rattle.tb_event_loop.specs.EventLoop.{IsWaitOf}
use Rattle.tb_event_loop.specs.Farewell.{SendsAll}
use Rattle.tb_event_loop.specs.Hearing.{Hears}
use Rattle.tb_event_loop.specs.Rounds.{IsCutRound, IsRound}
use Rattle.tb_event_loop.specs.Sockets.{Called, deaf, waited}
use Rattle.tb_event_loop.specs.Watching.{FindsGone, FindsThere}
use Rattle.tb_event_loop.specs.declared.event_loop.EventLoop.{EventLoop}
use Rattle.tb_event_loop.specs.declared.fault.LoopFault.{LoopFault}
use Rattle.tb_event_loop.specs.declared.fault.LoopFault.TheVariants.{Memory, Moved, Sockets, Store}
use Rattle.tb_event_loop.specs.declared.sockets.Told.{Told}

module _ {N V P : Type 0} (asks : List Called → N → N → Type 0) (last_told : N → List Told)
    (looks : List Bool → P → P → Type 0) (happens : Bool → List (ℕ × Done) → V → V → Type 0)
    (files : V → List ℕ → Bool) (held owed : V → ℕ → List ℕ) (wants : V → ℕ → ℕ → Type 0) where
  -- It waits no longer than it may, knows what it was told, and accepts who is there.
  pub record IsReady (before ready : EventLoop) (old taken : N) : Type 0 where
    pub millis : ℕ
    pub limit : IsWaitOf before millis
    pub heard : N
    pub waits : asks (waited millis (last_told heard) ∷ []) old heard
    pub hears : StaysReady asks (before.arrivals.is_ready || tells_listener (last_told heard))
        ready.arrivals.is_ready heard taken
    pub tries : before.arrivals.is_waiting ≡ false
        → may_accept (told_of (last_told heard) before.arrivals) ready.now ≡ true
        → TriesToAccept asks heard taken
    pub marks : Hears (last_told heard) before.places ready.places

  -- What is served is there, and each place that is taken has its turn.
  pub record IsLap (before after : EventLoop) (old new : N × V × P) : Type 0 where
    pub ready : EventLoop
    pub taken : N
    pub readies : IsReady before ready old.0 taken
    pub there : FindsThere looks before.now ready.now old.2 new.2
    pub round : IsRound asks happens files held owed wants ready after (taken, old.1) (new.0, new.1)

  abbrev pub AreLaps : ℕ → EventLoop → EventLoop → N × V × P → N × V × P → Type 0
  AreLaps zero before after old new = (after ≡ before) × (new ≡ old)
  AreLaps (suc count) before after old new =
      (between : EventLoop) × (middle : N × V × P)
      × AreLaps count before between old middle × IsLap between after middle new

  -- The store fails at one place. Then each connection is sent once what it is owed.
  pub record IsLastLap (before : EventLoop) (old new : N × V × P) : Type 0 where
    pub ready : EventLoop
    pub taken : N
    pub readies : IsReady before ready old.0 taken
    pub there : FindsThere looks before.now ready.now old.2 new.2
    pub after : EventLoop
    pub cut : N
    pub round : IsCutRound asks happens files held owed wants ready after (taken, old.1) (cut, new.1)
    pub farewell : SendsAll asks (owed new.1) after.places cut new.0

  -- What comes after so many rounds. No machine lasts for as many as can be counted.
  abbrev pub EndsAfter : {E : Type 0} → ℕ → Result E LoopFault → EventLoop → N × V × P
      → N × V × P → Type 0
  EndsAfter count (Ok done) before old new = new ≡ old
  EndsAfter count (Err Sockets) before old new =
      (asks (deaf ∷ []) old.0 new.0 ⊎ ((count ≡ 2 ^ 64 - 1) × (new.0 ≡ old.0)))
      × (new.1 ≡ old.1) × (new.2 ≡ old.2)
  EndsAfter count (Err Moved) before old new =
      (ready : EventLoop) × IsReady before ready old.0 new.0
      × FindsGone looks before.now ready.now old.2 new.2 × (new.1 ≡ old.1)
  EndsAfter count (Err Store) before old new = IsLastLap before old new
  EndsAfter count (Err Memory) before old new = ⊥

  -- So many rounds came one after the other, and then the end.
  pub record IsMadeOfLaps {E : Type 0} (result : Result E LoopFault) (before : EventLoop) (old new : N × V × P) : Type 0 where
    pub count : ℕ
    pub last : EventLoop
    pub end : N × V × P
    pub laps : AreLaps count before last old end
    pub ended : EndsAfter count result last end new
