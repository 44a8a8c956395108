-- A whole run of the loop: what was done, and how it ended.
use Rattle.std.specs.Prelude.{◌≡◌, ◌⊎◌, ℕ, ◌-◌, ◌^◌, ◌≤◌, Bool, false, List, [], ◌∷◌, ◌++◌, length}
use Rattle.tb_event_loop.specs.Deeds.{Deed, DoesTo, calls_in, done_in}
use Rattle.tb_event_loop.specs.Done.{Done}
use Rattle.tb_event_loop.specs.Farewell.{AreFarewells}
use Rattle.tb_event_loop.specs.Sockets.{Called, deaf}

-- Deeds were done one after the other, and where the store failed farewells came behind them. The service comes of all that they did to it.
pub record Runs {N V : Type 0} (asks : List Called → N → N → Type 0)
    (happens : Bool → List (ℕ × Done) → V → V → Type 0) (owed : V → ℕ → List ℕ) (stopped : Bool) (old new : N × V) : Type 0 where
  pub deeds : List Deed
  pub farewells : List Called
  pub asked : asks (calls_in deeds ++ farewells) old.0 new.0
  pub does : DoesTo happens owed stopped deeds old.1 new.1
  pub made : happens stopped (done_in deeds) old.1 new.1
  pub last : AreFarewells (owed new.1) farewells
  pub none : stopped ≡ false → farewells ≡ []

-- The last call wasn't told, or there were more calls than any machine makes.
abbrev pub IsCutOff : {N : Type 0} → (List Called → N → N → Type 0) → N → N → Type 0
IsCutOff asks old new = (calls : List Called)
    × (asks (calls ++ (deaf ∷ [])) old new ⊎ (asks calls old new × (2 ^ 64 - 1 ≤ length calls)))
