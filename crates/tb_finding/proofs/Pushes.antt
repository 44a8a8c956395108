-- Texts that were pushed one after the other.
use Rattle.std.proofs.Common.{◌≡◌, ◌++◌, List, ℕ, append_assoc}

pub three_pushed : (start a b c x y : List ℕ) → x ≡ start ++ a → y ≡ x ++ b → y ++ c ≡ start ++ (a ++ (b ++ c))
three_pushed start a b c x y p q = rw (q, p) (simp append_assoc)

pub four_pushed : (start a b c d x y z : List ℕ) → x ≡ start ++ a → y ≡ x ++ b → z ≡ y ++ c → z ++ d ≡ start ++ (a ++ (b ++ (c ++ d)))
four_pushed start a b c d x y z p q r = rw (r, q, p) (simp append_assoc)
