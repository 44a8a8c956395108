-- What a look leaves of what is held, however it ended.
use Rattle.std.proofs.Common.{◌≡◌, ℕ, Bool, true, false, ◌||◌, List, Result, Ok, Err, refl, sym, subst, ◌∙◌}
use Rattle.std.specs.Prelude.{IfOk}
use Rattle.std.proofs.lemmas.Result.{IfOk-weaker}
use Rattle.sqlite.specs.State.{HasCleanDisk, State as Database}
use Rattle.tb_board.specs.declared.board.Board.{Board}
use Rattle.tb_calls.specs.Call.{State}
use Rattle.tb_calls.specs.Keep.{IsStill, is_store}
use Rattle.tb_calls.specs.declared.fault.KeepFault.{KeepFault}
use Rattle.tb_calls.specs.declared.fault.KeepFault.TheVariants.{Store}
use Rattle.tb_cache.specs.BoardCache.{AreOf}
use Rattle.tb_sql.specs.Opening.{IsAsBefore}
use Rattle.tb_sql.specs.declared.store.StoreFault.{StoreFault}
use Rattle.tb_sql.specs.declared.store.StoreFault.TheVariants.{Memory as NoRoom, Store as Failed}
use Rattle.tb_lookup.specs.Reopening.{OfState}
use Rattle.tb_lookup.specs.Stored.{IsStored, MayLeave}
use Rattle.tb_keeper.specs.Ending.{ended}
use Rattle.tb_keeper.specs.Failing.{FailsOf}
use Rattle.tb_keeper.specs.declared.people_at_hand.People.{People}
use Rattle.tb_keeper.specs.Holds.{Holds, IsAtHand}
use Rattle.tb_keeper.proofs.Holding.{held_of, hand_after, hand_failure_leaves, hand_leaves, hand_told}
use Rattle.tb_keeper.proofs.KnownPeople.{same_people}

or_false : (b : Bool) → b ≡ (b || false)
or_false true = refl
or_false false = refl

or_true : (b : Bool) → true ≡ (b || true)
or_true true = refl
or_true false = refl

ended_ok : {T : Type 0} (P : T → Type 0) (r : Result T StoreFault) → IfOk r P → IfOk (ended r) P
ended_ok P (Ok x) found = found
ended_ok P (Err NoRoom) found = tt
ended_ok P (Err Failed) found = tt

-- what is true of what was found is true of what is told
pub settled_ok : {T : Type 0} (P : T → Type 0) (r : Result T StoreFault) (e : Result T KeepFault) → e ≡ ended r → IfOk r P → IfOk e P
settled_ok P r e is found = subst (λ y. IfOk y P) (sym is) (ended_ok P r found)

module _ (failed : Bool) (people later_people : People) (boards : ℕ) (cached later : List (ℕ × Board)) (old new : Database) (fine : failed ≡ false) (before : IsAsBefore old new) (idle : old.in_transaction ≡ false → new.in_transaction ≡ false) where
  found_told : {T : Type 0} (P : T → State → Type 0) (r : Result T StoreFault) → IfOk r (λ x. OfState old new (λ s. IsAtHand people boards cached s.world → P x s)) → new.is_clean ≡ true → (s : State) → Holds failed people boards cached old s
      → IfOk r (λ x. P x s)
  found_told P (Ok x) found is s held = (hand_told failed people later_people boards cached later old new fine before idle (P x) found is s held).1
  found_told P (Err f) found is s held = tt

  -- what is looked up of a state that is held, by what is at hand
  pub settled_hand_told : {T : Type 0} (P : T → State → Type 0) (r : Result T StoreFault) (e : Result T KeepFault) → e ≡ ended r → IfOk r (λ x. OfState old new (λ s. IsAtHand people boards cached s.world → P x s)) → new.is_clean ≡ true → (s : State)
      → Holds failed people boards cached old s → IfOk e (λ x. P x s)
  settled_hand_told P r e as_told found is s held = settled_ok (λ x. P x s) r e as_told (found_told P r found is s held)

  leaves : {T : Type 0} (r : Result T StoreFault) → OfState old new (λ s. IsAtHand people boards cached s.world → IsAtHand later_people boards later s.world)
      → IsStill (λ s. Holds failed people boards cached old s) (λ t. MayLeave old t) (λ s. Holds (failed || is_store (ended r)) later_people boards later new s) (λ t. MayLeave new t)
  leaves (Ok x) of =
      subst (λ b. IsStill (λ s. Holds failed people boards cached old s) (λ t. MayLeave old t) (λ s. Holds b later_people boards later new s) (λ t. MayLeave new t)) (or_false failed)
      (hand_leaves failed people later_people boards cached later old new fine before idle of)
  leaves (Err NoRoom) of =
      subst (λ b. IsStill (λ s. Holds failed people boards cached old s) (λ t. MayLeave old t) (λ s. Holds b later_people boards later new s) (λ t. MayLeave new t)) (or_false failed)
      (hand_leaves failed people later_people boards cached later old new fine before idle of)
  leaves (Err Failed) of =
      subst (λ b. IsStill (λ s. Holds failed people boards cached old s) (λ t. MayLeave old t) (λ s. Holds b later_people boards later new s) (λ t. MayLeave new t)) (or_true failed)
      (hand_failure_leaves failed people later_people boards cached later old new fine before idle)

  -- a look leaves what is held, and so does one that fails
  pub settled_hand_leaves : {T : Type 0} (r : Result T StoreFault) (e : Result T KeepFault) → e ≡ ended r → OfState old new (λ s. IsAtHand people boards cached s.world → IsAtHand later_people boards later s.world)
      → IsStill (λ s. Holds failed people boards cached old s) (λ t. MayLeave old t) (λ s. Holds (failed || is_store e) later_people boards later new s) (λ t. MayLeave new t)
  settled_hand_leaves r e as_told of =
      subst (λ y. IsStill (λ s. Holds failed people boards cached old s) (λ t. MayLeave old t) (λ s. Holds (failed || is_store y) later_people boards later new s) (λ t. MayLeave new t)) (sym as_told) (leaves r of)

module _ (failed : Bool) (people : People) (boards : ℕ) (cached later : List (ℕ × Board)) (old new : Database) (fine : failed ≡ false) (before : IsAsBefore old new) (idle : old.in_transaction ≡ false → new.in_transaction ≡ false) where
  -- so where what is at hand isn't needed
  pub settled_told : {T : Type 0} (P : T → State → Type 0) (r : Result T StoreFault) (e : Result T KeepFault) → e ≡ ended r → IfOk r (λ x. OfState old new (P x)) → new.is_clean ≡ true → (s : State) → Holds failed people boards cached old s
      → IfOk e (λ x. P x s)
  settled_told P r e as_told found is s held =
      settled_hand_told failed people people boards cached later old new fine before idle P r e as_told (IfOk-weaker r (λ x. OfState old new (P x)) (λ x. OfState old new (λ s. IsAtHand people boards cached s.world → P x s)) (λ x of clean s stored hand. of clean s stored) found) is s held

  -- and where the same people are known
  pub settled_leaves : {T : Type 0} (r : Result T StoreFault) (e : Result T KeepFault) → e ≡ ended r → OfState old new (λ s. AreOf s.world cached → AreOf s.world later)
      → IsStill (λ s. Holds failed people boards cached old s) (λ t. MayLeave old t) (λ s. Holds (failed || is_store e) people boards later new s) (λ t. MayLeave new t)
  settled_leaves r e as_told of = settled_hand_leaves failed people people boards cached later old new fine before idle r e as_told (hand_after people people boards cached later old new (same_people people old new) of)

-- ---- why a look fails

ended_store : {T : Type 0} (r : Result T StoreFault) → ended r ≡ Err Store → r ≡ Err Failed
ended_store (Ok x) is = absurd (cc)
ended_store (Err NoRoom) is = absurd (cc)
ended_store (Err Failed) is = refl

-- what excuses a look excuses the call that told it
pub settled_fails : {T : Type 0} (failed : Bool) (people : People) (boards : ℕ) (cached : List (ℕ × Board)) (old new : Database) → failed ≡ false → (HasCleanDisk new → HasCleanDisk old) → (r : Result T StoreFault) (e : Result T KeepFault) → e ≡ ended r
    → (r ≡ Err Failed → FailsOf old new (λ s. IsStored s old × IsAtHand people boards cached s.world)) → e ≡ Err Store → FailsOf old new (λ s. Holds failed people boards cached old s)
settled_fails failed people boards cached old new fine before r e as_told fails is clean ready s held = fails (ended_store r (sym as_told ∙ is)) clean ready s (held_of failed people boards cached old s fine (before clean) held)
