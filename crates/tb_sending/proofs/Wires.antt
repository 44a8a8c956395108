-- Calls of the machine that follow one another.
use Rattle.std.proofs.Common.{◌≤◌, ◌<◌, ℕ, true, false, List, [], ◌∷◌, ◌++◌, inl, inr, refl, sym}
use Rattle.std.proofs.lemmas.List.{append-nil}
use Rattle.tb_client.specs.Asking.{Event, asked, late, torn, waited}
use Rattle.tb_sending.specs.Wires.{Wire, came, opened, passed, sent, slept, IsEventBy, Leads, longest_answer, seconds_left}

abbrev pub Joins : {D : Type 0} → (List Wire → D → D → Type 0) → Type 0
Joins {D} follows = (first more : List Wire) (a b c : D) → follows first a b → follows more b c → follows (first ++ more) a c

module _ {D : Type 0} (follows : List Wire → D → D → Type 0) (joined : Joins follows) (server : List ℕ) (seconds : ℕ) where
  -- one event by calls that follow one another
  leads_by : (event : Event) (wires : List Wire) (a b : D) → follows wires a b → IsEventBy server seconds wires event
      → Leads follows (event ∷ []) server server seconds seconds a b
  leads_by event wires a b follow is = (refl, refl, wires, follow, (wires, [], sym (append-nil wires), is, refl))

  pub leads_asked : (gone : ℕ) (message reply : List ℕ) (a b c d e : D) → follows (passed gone ∷ []) a b
      → follows (opened server (seconds_left seconds gone) true ∷ []) b c → follows (sent message ∷ []) c d
      → follows (came longest_answer reply ∷ []) d e → Leads follows (asked message reply ∷ []) server server seconds seconds a e
  leads_asked gone message reply a b c d e p q r s =
      leads_by (asked message reply) _ a e
      (joined (passed gone ∷ []) _ a b e p (joined (opened server (seconds_left seconds gone) true ∷ []) _ b c e q (joined (sent message ∷ []) (came longest_answer reply ∷ []) c d e r s)))
      (gone, refl)

  pub leads_cut : (gone : ℕ) (front : List ℕ) (a b c d : D) → follows (passed gone ∷ []) a b
      → follows (opened server (seconds_left seconds gone) true ∷ []) b c → follows (sent front ∷ []) c d
      → Leads follows (torn front ∷ []) server server seconds seconds a d
  leads_cut gone front a b c d p q r =
      leads_by (torn front) _ a d
      (joined (passed gone ∷ []) _ a b d p (joined (opened server (seconds_left seconds gone) true ∷ []) (sent front ∷ []) b c d q r))
      (gone, inr refl)

  pub leads_refused : (gone : ℕ) (a b c : D) → follows (passed gone ∷ []) a b
      → follows (opened server (seconds_left seconds gone) false ∷ []) b c → Leads follows (torn [] ∷ []) server server seconds seconds a c
  leads_refused gone a b c p q =
      leads_by (torn []) _ a c (joined (passed gone ∷ []) (opened server (seconds_left seconds gone) false ∷ []) a b c p q) (gone, inl (refl, refl))

  pub leads_waited : (gone pause : ℕ) (a b c : D) → gone < seconds → follows (passed gone ∷ []) a b → follows (slept pause ∷ []) b c
      → Leads follows (waited pause ∷ []) server server seconds seconds a c
  leads_waited gone pause a b c early p q =
      leads_by (waited pause) _ a c (joined (passed gone ∷ []) (slept pause ∷ []) a b c p q) (gone, early, refl)

  pub leads_late : (gone : ℕ) (a b : D) → seconds ≤ gone → follows (passed gone ∷ []) a b
      → Leads follows (late ∷ []) server server seconds seconds a b
  leads_late gone a b over p = leads_by late (passed gone ∷ []) a b p (gone, over, refl)
