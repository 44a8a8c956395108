-- How long it is until a message is due, one place after the other.
use Rattle.std.proofs.Common.{◌≡◌, ℕ, ◌+◌, ◌-◌, ◌<◌, ◌≤◌, min, unwrap_or, Option, Some, None, ◌⊎◌, inl, inr, refl, sym, ◌∙◌, ap, subst, arith}
use Rattle.std.proofs.lemmas.Option.{none-some}
use Rattle.tb_event_loop.specs.Guesses.{until_one}
use Rattle.tb_event_loop.specs.Places.{IsUntilDue, connection_in, waits_until}
use Rattle.tb_event_loop.specs.declared.places.Places.{Places}

below_or_at : (place end : ℕ) → place < end + 1 → (place < end) ⊎ (place ≡ end)
below_or_at place end h = grind arith

at_or_below : (P : ℕ → Type 0) (end : ℕ) → ((place : ℕ) → place < end → P place) → P end → (place : ℕ) → place < end + 1 → P place
at_or_below P end below here place h =
    elim (below_or_at place end h) [ inl less ↦ below place less | inr same ↦ subst P (sym same) here ]

-- a moment isn't none
differs : {x : Option ℕ} (n : ℕ) {T : Type 0} → x ≡ None → x ≡ Some n → T
differs n none some = absurd (none-some n (sym none ∙ some))

-- two moments of one place are the same
agree : {x : Option ℕ} (m n : ℕ) → x ≡ Some m → x ≡ Some n → m ≡ n
agree m n one other = ap (λ x. unwrap_or x 0) (sym one ∙ other)

lesser : (a b n : ℕ) → n ≡ min a b → (n ≡ a) ⊎ (n ≡ b)
lesser a b n is = grind arith

-- at this place nothing waits
passes : (places : Places) (place now most wait next : ℕ) → waits_until now (connection_in places place) ≡ None
    → IsUntilDue places place now most wait → next ≡ wait → IsUntilDue places (place + 1) now most next
passes places place now most wait next at old is = record {
  at_most = let h = old.at_most in omega (arith, h, is);
  before_each = λ other due below waits.
      at_or_below (λ o. waits_until now (connection_in places o) ≡ Some due → next ≤ due - now) place
      (λ o less w. let h = old.before_each o due less w in omega (arith, h, is)) (λ w. differs due at w) other below waits;
  no_less = elim old.no_less [ inl same ↦ inl (is ∙ same) | inr found ↦ inr (found.0, found.1, found.2, is ∙ found.3) ];
}

-- at this place a message waits until a moment
bounds : (places : Places) (place now most wait next moment : ℕ) → waits_until now (connection_in places place) ≡ Some moment
    → IsUntilDue places place now most wait → next ≡ min wait (moment - now) → IsUntilDue places (place + 1) now most next
bounds places place now most wait next moment at old is = record {
  at_most = let h = old.at_most in omega (arith, h, is);
  before_each = λ other due below waits.
      at_or_below (λ o. waits_until now (connection_in places o) ≡ Some due → next ≤ due - now) place
      (λ o less w. let h = old.before_each o due less w in omega (arith, h, is))
      (λ w. let same = agree moment due at w in omega (arith, same, is)) other below waits;
  no_less = elim (lesser wait (moment - now) next is) [
    | inl before ↦ elim old.no_less [ inl same ↦ inl (before ∙ same) | inr found ↦ inr (found.0, found.1, found.2, before ∙ found.3) ]
    | inr here ↦ inr (place, moment, at, here)
  ];
}

until_with : (places : Places) (place now most wait next : ℕ) (o : Option ℕ) → waits_until now (connection_in places place) ≡ o
    → IsUntilDue places place now most wait → next ≡ until_one o now wait → IsUntilDue places (place + 1) now most next
until_with places place now most wait next None at old is = passes places place now most wait next at old is
until_with places place now most wait next (Some moment) at old is = bounds places place now most wait next moment at old is

pub until_later : (places : Places) (place now most wait next : ℕ) → IsUntilDue places place now most wait
    → next ≡ until_one (waits_until now (connection_in places place)) now wait → IsUntilDue places (place + 1) now most next
until_later places place now most wait next old is =
    until_with places place now most wait next (waits_until now (connection_in places place)) refl old is
