-- What is sent where the store failed, one call after the other.
use Rattle.std.proofs.Common.{◌≡◌, ℕ, suc, true, false, List, [], ◌∷◌, ◌++◌, length, take, drop, refl, sym, ◌∙◌, subst}
use Rattle.std.specs.Prelude.{◌==◌}
use Rattle.std.proofs.lemmas.Bool.{and_parts, eqb-true, false≢true, true≢false}
use Rattle.std.proofs.lemmas.List.{take-append-drop}
use Rattle.std.specs.declared.io.ErrorKind.{ErrorKind}
use Rattle.tb_event_loop.specs.Farewell.{AreFarewells, IsFarewell, SaysFarewell, WritesOnce}
use Rattle.tb_event_loop.specs.Sockets.{Called, Quietly, accepted, are_quiet, closed, deaf, dropped, is_quiet, read, seated, shut, unaccepted, unread, unwritten, waited, wrote}

farewells_append : (owed : ℕ → List ℕ) (xs ys : List Called) → AreFarewells owed xs → AreFarewells owed ys → AreFarewells owed (xs ++ ys)
farewells_append owed [] ys first more = more
farewells_append owed (call ∷ xs) ys first more = (first.0, farewells_append owed xs ys first.1 more)

quiet_farewell : (owed : ℕ → List ℕ) (call : Called) → is_quiet call ≡ true → IsFarewell owed call
quiet_farewell owed (waited millis told) is = is
quiet_farewell owed deaf is = is
quiet_farewell owed accepted is = is
quiet_farewell owed (unaccepted kind) is = is
quiet_farewell owed (seated place told) is = is
quiet_farewell owed (read place bytes) is = is
quiet_farewell owed (unread place kind) is = is
quiet_farewell owed (dropped place count) is = is
quiet_farewell owed (wrote place bytes) is = absurd (false≢true is)
quiet_farewell owed (unwritten place kind) is = is
quiet_farewell owed (shut place) is = is
quiet_farewell owed (closed place) is = is

quiet_farewells : (owed : ℕ → List ℕ) (calls : List Called) → are_quiet calls ≡ true → AreFarewells owed calls
quiet_farewells owed [] are = tt
quiet_farewells owed (call ∷ calls) are =
    let both = and_parts (is_quiet call) (are_quiet calls) are in (quiet_farewell owed call both.0, quiet_farewells owed calls both.1)

module _ {N : Type 0} (asks : List Called → N → N → Type 0) (owed : ℕ → List ℕ) where
  pub says_none : ((n : N) → asks [] n n) → (n : N) → SaysFarewell asks owed n n
  says_none unchanged n = record { calls = []; made = unchanged n; are = tt }

  pub says_quietly : (n m : N) → Quietly asks n m → SaysFarewell asks owed n m
  says_quietly n m quiet = record { calls = quiet.calls; made = quiet.made; are = quiet_farewells owed quiet.calls quiet.quiet }

  pub says_then : ((first more : List Called) (a b c : N) → asks first a b → asks more b c → asks (first ++ more) a c) → (a b c : N)
      → SaysFarewell asks owed a b → SaysFarewell asks owed b c → SaysFarewell asks owed a c
  says_then joined a b c first more = record {
    calls = first.calls ++ more.calls;
    made = joined first.calls more.calls a b c first.made more.made;
    are = farewells_append owed first.calls more.calls first.are more.are;
  }

  pub says_bytes : (place count : ℕ) (bytes : List ℕ) (n m : N) → bytes ≡ owed place → asks (wrote place (take count bytes) ∷ []) n m → SaysFarewell asks owed n m
  says_bytes place count bytes n m is asked = record {
    calls = wrote place (take count bytes) ∷ [];
    made = asked;
    are = ((drop count bytes, sym is ∙ sym (take-append-drop count bytes)), tt);
  }

-- ---- what is owed is written once

module _ {N : Type 0} (asks : List Called → N → N → Type 0) (place : ℕ) where
  pub writes_none : (n : N) (bytes owed : List ℕ) → bytes ≡ owed → (length bytes == 0) ≡ true → WritesOnce asks owed place n n
  writes_none n [] owed is empty = subst (λ (o : List ℕ). WritesOnce asks o place n n) is refl
  writes_none n (byte ∷ bytes) owed is empty =
      let none : suc (length bytes) ≡ 0 = eqb-true (suc (length bytes)) 0 empty in absurd (cc)

  pub writes_some : (count : ℕ) (n m : N) (bytes owed : List ℕ) → bytes ≡ owed → (length bytes == 0) ≡ false → asks (wrote place (take count bytes) ∷ []) n m
      → WritesOnce asks owed place n m
  writes_some count n m [] owed is some asked = absurd (true≢false some)
  writes_some count n m (byte ∷ bytes) owed is some asked =
      subst (λ (o : List ℕ). WritesOnce asks o place n m) is
      (wrote place (take count (byte ∷ bytes)), (refl, drop count (byte ∷ bytes), sym (take-append-drop count (byte ∷ bytes))), asked)

  pub writes_failed : (kind : ErrorKind) (n m : N) (bytes owed : List ℕ) → bytes ≡ owed → (length bytes == 0) ≡ false → asks (unwritten place kind ∷ []) n m
      → WritesOnce asks owed place n m
  writes_failed kind n m [] owed is some asked = absurd (true≢false some)
  writes_failed kind n m (byte ∷ bytes) owed is some asked =
      subst (λ (o : List ℕ). WritesOnce asks o place n m) is (unwritten place kind, refl, asked)
