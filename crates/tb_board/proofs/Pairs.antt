-- Pairs of numbers in order.
use Rattle.std.proofs.Common.{◌≡◌, ℕ, ◌<◌, ◌==◌, ◌&&◌, nat_lt, true, false, true≢false, Ordering, Less, Equal, Greater, refl, sym, ◌∙◌, ap, arith}
use Rattle.std.specs.Cmp.{IsTotalOrder, nat_eq_equiv}
use Rattle.std.specs.Ordering.{is_eq, is_lt, nat_cmp, ordering_reverse, ordering_then}
use Rattle.std.proofs.lemmas.Bool.{le-ltb, lt-ltb}
use Rattle.tb_board.proofs.Linking.{same_number}

both_equal : (o q : Ordering) → is_eq (ordering_then o q) ≡ (is_eq o && is_eq q)
both_equal Less q = refl
both_equal Equal q = refl
both_equal Greater q = refl

pub same_pair : (a b k l : ℕ) → is_eq (ordering_then (nat_cmp a b) (nat_cmp k l)) ≡ ((a == b) && (k == l))
same_pair a b k l = both_equal (nat_cmp a b) (nat_cmp k l) ∙ ap (λ p. p && is_eq (nat_cmp k l)) (same_number a b) ∙ ap (λ p. (a == b) && p) (same_number k l)

pub first_less : (a b : ℕ) (o : Ordering) → a < b → ordering_then (nat_cmp a b) o ≡ Less
first_less a b o h = let less : nat_lt a b ≡ true = lt-ltb a b h in rw less refl

pub second_less : (a k l : ℕ) → k < l → ordering_then (nat_cmp a a) (nat_cmp k l) ≡ Less
second_less a k l h =
    let other : nat_lt a a ≡ false = le-ltb a a (omega arith) in
    let same : (a == a) ≡ true = nat_eq_equiv.refl a in
    let less : nat_lt k l ≡ true = lt-ltb k l h in
    rw (other, same, less) refl

pub is_less : (o : Ordering) → is_lt o ≡ true → o ≡ Less
is_less Less h = refl
is_less Equal h = absurd (true≢false (sym h))
is_less Greater h = absurd (true≢false (sym h))

-- what is neither before another one nor at its place comes after it
pub comes_after : {K : Type 0} {R : K → K → Ordering} → IsTotalOrder R → (x y : K) (o : Ordering) → R x y ≡ o → is_lt o ≡ false → (R x y ≡ Equal → ⊥) → R y x ≡ Less
comes_after order x y Less is h apart = absurd (true≢false h)
comes_after order x y Equal is h apart = absurd (apart is)
comes_after order x y Greater is h apart = order.antisymm y x ∙ ap ordering_reverse is
