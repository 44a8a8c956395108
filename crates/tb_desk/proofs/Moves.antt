-- Held states under other names.
use Rattle.std.proofs.Common.{◌≡◌, ◌⊎◌, ℕ, ◌+◌, ◌<◌, zero, suc, get_or, Bool, true, false, if◌then◌else◌, List, [], ◌∷◌, length, take, Option, Some, None, ◌≢◌, Result, Ok, Err, refl, sym, ap, ◌∙◌, subst, inl, true≢false, ⊎_elim, arith}
use Rattle.std.specs.Prelude.{OnOk, IsErr, IsErrOf, MatchOption, is_ok}
use Rattle.tb_calls.specs.declared.call.Call.{Call}
use Rattle.tb_calls.specs.declared.reply.Reply.{Reply}
use Rattle.tb_calls.specs.declared.fault.KeepFault.{KeepFault}
use Rattle.tb_calls.specs.declared.fault.KeepFault.TheVariants.{Memory, Store}
use Rattle.tb_core.specs.GoodWorld.{IsGoodWorld}
use Rattle.tb_calls.specs.Call.{State, after_call, plain, once}
use Rattle.tb_desk.proofs.Repeats.{good_all, new_acts}
use Rattle.tb_desk.proofs.Runs.{after_all, after_all-more}
use Rattle.tb_calls.specs.Keep.{HoldsEither, IsNew, IsStill, is_store}
use Rattle.tb_calls.specs.Leaving.{IsAfterSome, Only, StandsAfter}

pub either_of : {a b : State} {now : State → Type 0} {stops : State → Type 0} (c : State) → b ≡ c → HoldsEither a b now stops → HoldsEither a c now stops
either_of {a = a} {now = now} {stops = stops} c second e = subst (λ x. HoldsEither a x now stops) second e

-- after a call, whatever it answered
pub stands_after : (s : State) (c : Call) (now stops : State → Type 0) (r : Result Reply KeepFault)
    → OnOk r (now (plain s (once s (c ∷ [])))) → (IsErrOf r Memory → now s) → ((t : State) → now t → is_store r ≡ false → Only t stops) → (IsErrOf r Store → HoldsEither s (plain s (once s (c ∷ []))) now stops)
    → StandsAfter s (c ∷ []) (if is_ok r then 1 else 0) now stops
stands_after s c now stops (Ok x) done same alone either =
    let at : IsAfterSome s (c ∷ []) 1 (plain s (once s (c ∷ []))) = (1, omega arith, omega arith, refl) in
    record { held = (plain s (once s (c ∷ [])), done, at); stops = λ t left. subst (IsAfterSome s (c ∷ []) 1) (sym (alone _ done refl t left)) at }
stands_after s c now stops (Err Memory) done same alone either =
    let at : IsAfterSome s (c ∷ []) 0 s = (0, omega arith, omega arith, refl) in
    record { held = (s, same refl, at); stops = λ t left. subst (IsAfterSome s (c ∷ []) 0) (sym (alone s (same refl) refl t left)) at }
stands_after s c now stops (Err Store) done same alone either =
    let e = either refl in
    let before : IsAfterSome s (c ∷ []) 0 s = (0, omega arith, omega arith, refl) in
    let after : IsAfterSome s (c ∷ []) 0 (plain s (once s (c ∷ []))) = (1, omega arith, omega arith, refl) in
    record {
      held = ⊎_elim (λ h. (s, h, before)) (λ h. (plain s (once s (c ∷ [])), h, after)) e.held;
      stops = λ t left. ⊎_elim (λ is. subst (IsAfterSome s (c ∷ []) 0) (sym is) before) (λ is. subst (IsAfterSome s (c ∷ []) 0) (sym is) after) (e.stops t left);
    }

-- nothing was handled
pub stands_still : (s : State) (calls : List Call) (now stops : State → Type 0) → now s → Only s stops → StandsAfter s calls 0 now stops
stands_still s calls now stops held only =
    let at : IsAfterSome s calls 0 s = (0, omega arith, omega arith, refl) in
    record { held = (s, held, at); stops = λ t left. subst (IsAfterSome s calls 0) (sym (only t left)) at }

-- a fault before anything was handled: what is still is as it was
pub stands_as_was : (s : State) (calls : List Call) (old old_stops now stops : State → Type 0) (r : Result Reply KeepFault) → IsErr r → IsStill old old_stops now stops → old s → Only s old_stops → StandsAfter s calls (if is_ok r then 1 else 0) now stops
stands_as_was s calls old old_stops now stops (Ok x) wrong still held only = absurd (true≢false (sym wrong))
stands_as_was s calls old old_stops now stops (Err f) wrong still held only = stands_still s calls now stops (still.held s held) (λ t left. only t (still.stops s t held left))

-- after a call that acts where what is kept is as it was put. Elsewhere a stop leaves nothing, and each good state is held
pub stands_new : (s : State) (c : Call) (now stops : State → Type 0) (honest : Bool) (r : Result Reply KeepFault) → (honest ≡ true → IsNew s c)
    → (IsNew s c → OnOk r (now (after_call s c))) → (IsNew s c → IsErrOf r Memory → now s) → (IsNew s c → IsErrOf r Store → HoldsEither s (after_call s c) now stops)
    → ((t : State) → now t → is_store r ≡ false → Only t stops) → ((t : State) → IsGoodWorld t.world → (honest ≡ true → now t) → now t) → ((t : State) → stops t → honest ≡ true) → IsGoodWorld s.world
    → StandsAfter s (c ∷ []) (if is_ok r then 1 else 0) now stops
stands_new s c now stops true r new done same either alone given leaves good =
    let acts = new_acts s c (new refl) in
    stands_after s c now stops r (subst (λ t. OnOk r (now t)) acts (done (new refl))) (same (new refl)) alone (λ failed. either_of _ acts (either (new refl) failed))
stands_new s c now stops false (Ok x) new done same either alone given leaves good = record {
  held = (plain s (once s (c ∷ [])), given _ (good_all s (c ∷ []) good) (λ e. absurd (true≢false (sym e))), (1, omega arith, omega arith, refl));
  stops = λ t left. absurd (true≢false (sym (leaves t left)));
}
stands_new s c now stops false (Err f) new done same either alone given leaves good = record {
  held = (s, given s good (λ e. absurd (true≢false (sym e))), (0, omega arith, omega arith, refl));
  stops = λ t left. absurd (true≢false (sym (leaves t left)));
}

-- a call that was not answered: the calls before it stand, and it may
pub stands_more : (s t : State) (now stops : State → Type 0) (calls : List Call) (i : ℕ) (c : Call) → i < length calls → c ≡ get_or calls i c → t ≡ after_all s (take i calls) → StandsAfter t (c ∷ []) 0 now stops → StandsAfter s calls i now stops
stands_more s t now stops calls i c within is at stood =
    record { held = (stood.held.0, stood.held.1, moved stood.held.0 stood.held.2); stops = λ u left. moved u (stood.stops u left) }
  where
    moved : (u : State) → IsAfterSome t (c ∷ []) 0 u → IsAfterSome s calls i u
    moved u (zero, low, high, same) = (i, omega arith, omega arith, same ∙ at)
    moved u (suc zero, low, high, same) = (i + 1, omega arith, omega arith, same ∙ after_all-more s t calls i c within is at)
    moved u (suc (suc j), low, high, same) = absurd (omega arith)

-- all answered calls stand
pub stands_all : (s : State) (now stops : State → Type 0) (calls : List Call) (n : ℕ) → now (after_all s (take n calls)) → Only (after_all s (take n calls)) stops → StandsAfter s calls n now stops
stands_all s now stops calls n held only =
    let at : IsAfterSome s calls n (after_all s (take n calls)) = (n, omega arith, omega arith, refl) in
    record { held = (after_all s (take n calls), held, at); stops = λ t left. subst (IsAfterSome s calls n) (sym (only t left)) at }

pub stands_counted : (s : State) (now stops : State → Type 0) (calls : List Call) (n i : ℕ) → n ≡ i → StandsAfter s calls i now stops → StandsAfter s calls n now stops
stands_counted s now stops calls n i same stood = subst (λ m. StandsAfter s calls m now stops) (sym same) stood

-- what is still as it was is one of the two
pub still_either : (s x : State) (old old_stops now stops : State → Type 0) → IsStill old old_stops now stops → old s → Only s old_stops → HoldsEither s x now stops
still_either s x old old_stops now stops still held only = record { held = inl (still.held s held); stops = λ t left. inl (only t (still.stops s t held left)) }

-- what is still as it was, and then still as it was
pub still_then : (old old_stops mid mid_stops new new_stops : State → Type 0) → IsStill old old_stops mid mid_stops → IsStill mid mid_stops new new_stops → IsStill old old_stops new new_stops
still_then old old_stops mid mid_stops new new_stops first later = record {
  held = λ s held. later.held s (first.held s held);
  stops = λ s t held left. first.stops s t held (later.stops s t (first.held s held) left);
}

-- ---- of a store that isn't honest nothing is said

pub where_honest : {s t : State} {now stops : State → Type 0} (honest : Bool) → (honest ≡ true → HoldsEither s t now stops)
    → ((honest ≡ true → now s) → now s) → ((u : State) → stops u → honest ≡ true) → HoldsEither s t now stops
where_honest true either given leaves = either refl
where_honest false either given leaves = record { held = inl (given (λ e. absurd (true≢false (sym e)))); stops = λ u left. absurd (true≢false (sym (leaves u left))) }

pub held_where_honest : {s t : State} (now : State → Type 0) (honest : Bool) → (honest ≡ true → now s ⊎ now t) → ((honest ≡ true → now s) → now s)
    → now s ⊎ now t
held_where_honest now true either given = either refl
held_where_honest now false either given = inl (given (λ e. absurd (true≢false (sym e))))

-- what is matched by a value that is there
pub matched_some : {X : Type 0} (N : Type 0) (P : X → Type 0) (o : Option X) (x : X) → MatchOption o N P → o ≡ Some x → P x
matched_some N P o x matched is = subst (λ p. MatchOption p N P) is matched

pub matched_none : {X : Type 0} (N : Type 0) (P : X → Type 0) (o : Option X) → MatchOption o N P → o ≡ None → N
matched_none N P o matched is = subst (λ p. MatchOption p N P) is matched

-- ---- whether a keeper has failed

pub unfailed : (b : Bool) → (b ≡ true → ⊥) → b ≡ false
unfailed true not_so = absurd (not_so refl)
unfailed false not_so = refl

two_faults : {T : Type 0} (r : Result T KeepFault) → r ≡ Err Memory → r ≡ Err Store → ⊥
two_faults r memory store = cc

-- where memory was wanted, whether a keeper has failed stays as it was
pub memory_alone : {T : Type 0} (r : Result T KeepFault) (old new : Bool) → new ≡ is_store r → (old ≡ true → IsErrOf r Store) → IsErrOf r Memory → new ≡ old
memory_alone r true new failed closed memory = absurd (two_faults r memory (closed refl))
memory_alone r false new failed closed memory = failed ∙ ap is_store memory

-- a fault that isn't the store's is want of memory
pub unless_store : (P : Type 0) (fault : KeepFault) → Some fault ≢ Some Store → (fault ≡ Memory → P) → P
unless_store P Memory apart memory = memory refl
unless_store P Store apart memory = absurd (apart refl)
