-- What a stop may leave of calls that were sent.
use Rattle.std.specs.Prelude.{◌≡◌, ℕ, ◌+◌, ◌≤◌, List, take}
use Rattle.tb_calls.specs.declared.call.Call.{Call}
use Rattle.tb_calls.specs.Call.{State, plain, once}

-- a stop leaves this state and no other
abbrev pub Only : State → (State → Type 0) → Type 0
Only s stops = (t : State) → stops t → t ≡ s

-- a state after some of the calls, each acting once: all that were answered, and one more at most
-- Rule: a crash keeps each answered call, and one other at most. Tried by stopped_at_each_write.
abbrev pub IsAfterSome : State → List Call → ℕ → State → Type 0
IsAfterSome s calls answered t = (j : ℕ) × (answered ≤ j) × (j ≤ answered + 1)
    × (t ≡ plain s (once s (take j calls)))

-- a state that is held, and each that a stop may leave, are such states
pub record StandsAfter (s : State) (calls : List Call) (answered : ℕ) (now : State → Type 0)
    (may_leave : State → Type 0) : Type 0 where
  pub held : (t : State) × now t × IsAfterSome s calls answered t
  pub stops : (t : State) → may_leave t → IsAfterSome s calls answered t
