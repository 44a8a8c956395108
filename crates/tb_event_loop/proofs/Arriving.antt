-- Who is accepted, one call after the other.
use Rattle.std.proofs.Common.{◌≡◌, ℕ, Bool, List, [], ◌∷◌, ◌++◌, refl, sym, ap, ◌∙◌}
use Rattle.std.proofs.Math.Bool.{and-true}
use Rattle.std.specs.Prelude.{◌&&◌, not}
use Rattle.std.specs.declared.io.ErrorKind.{ErrorKind}
use Rattle.tb_event_loop.specs.Arrivals.{StaysReady, TriesToAccept, finds_none, ready_after}
use Rattle.tb_event_loop.specs.Sockets.{Called, Quietly, accepted, seated, unaccepted}
use Rattle.tb_event_loop.proofs.Acting.{quiet_append}

after_append : (ready : Bool) (xs ys : List Called) → ready_after ready (xs ++ ys) ≡ ready_after (ready_after ready xs) ys
after_append ready [] ys = refl
after_append ready (call ∷ xs) ys = after_append (ready && not (finds_none call)) xs ys

module _ {N : Type 0} (asks : List Called → N → N → Type 0) where
  pub ready_none : ((n : N) → asks [] n n) → (ready : Bool) (n : N) → StaysReady asks ready ready n n
  ready_none unchanged ready n = record { calls = []; made = unchanged n; quiet = refl; is = refl }

  pub ready_seated : (ready : Bool) (place : ℕ) (told : Bool) (n m : N) → asks (seated place told ∷ []) n m → StaysReady asks ready ready n m
  ready_seated ready place told n m asked = record { calls = seated place told ∷ []; made = asked; quiet = refl; is = sym (and-true ready) }

  pub ready_accepted : (ready : Bool) (n m : N) → asks (accepted ∷ []) n m → StaysReady asks ready ready n m
  ready_accepted ready n m asked = record { calls = accepted ∷ []; made = asked; quiet = refl; is = sym (and-true ready) }

  pub ready_failed : (before after : Bool) (kind : ErrorKind) (n m : N) → asks (unaccepted kind ∷ []) n m → after ≡ ready_after before (unaccepted kind ∷ [])
      → StaysReady asks before after n m
  ready_failed before after kind n m asked is = record { calls = unaccepted kind ∷ []; made = asked; quiet = refl; is = is }

  pub quiet_ready : (before after : Bool) (n m : N) → StaysReady asks before after n m → Quietly asks n m
  quiet_ready before after n m ready = record { calls = ready.calls; made = ready.made; quiet = ready.quiet }

  pub tries_then : ((first more : List Called) (a b c : N) → asks first a b → asks more b c → asks (first ++ more) a c) → (before after : Bool) (a b c : N)
      → TriesToAccept asks a b → StaysReady asks before after b c → TriesToAccept asks a c
  tries_then joined before after a b c first more = record {
    first = first.first;
    is = first.is;
    more = first.more ++ more.calls;
    made = joined (first.first ∷ first.more) more.calls a b c first.made more.made;
  }

  pub ready_then : ((first more : List Called) (a b c : N) → asks first a b → asks more b c → asks (first ++ more) a c) → (before between after : Bool) (a b c : N)
      → StaysReady asks before between a b → StaysReady asks between after b c → StaysReady asks before after a c
  ready_then joined before between after a b c first more = record {
    calls = first.calls ++ more.calls;
    made = joined first.calls more.calls a b c first.made more.made;
    quiet = quiet_append first.calls more.calls first.quiet more.quiet;
    is = more.is ∙ ap (λ ready. ready_after ready more.calls) first.is ∙ sym (after_append before first.calls more.calls);
  }
