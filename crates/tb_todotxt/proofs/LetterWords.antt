-- The letter of a priority's word.
use Rattle.std.proofs.Common.{◌≡◌, ◌∙◌, ℕ, inl, inr, true, ◌&&◌, ◌==◌, nat_le, List, length, get_or, Some, None, refl, sym}
use Rattle.std.proofs.lemmas.Bool.{cases_Bool, and_parts, and_from, eqb-true, leb-true, le-leb}
use Rattle.tb_task.proofs.Forms.{listed, listed-drop}
use Rattle.tb_todotxt.specs.Letter.{IsLetter, is_letter, priority_word, letter_of}

pub letter-true : (c : ℕ) → is_letter c ≡ true → IsLetter c
letter-true c h = let a = and_parts (nat_le 65 c) (nat_le c 90) h in (leb-true 65 c a.0, leb-true c 90 a.1)

pub true-letter : (c : ℕ) → IsLetter c → is_letter c ≡ true
true-letter c is = and_from (nat_le 65 c) (nat_le c 90) (le-leb 65 c is.0) (le-leb c 90 is.1)

-- such a word is read as its letter
pub read_letter : (c : ℕ) → IsLetter c → letter_of (priority_word c) ≡ Some c
unfolding letter_of
read_letter c is = rw (true-letter c is) refl

no_some : (c : ℕ) → None ≡ Some c → ⊥
no_some c h = cc

some_some : (b c : ℕ) → Some b ≡ Some c → b ≡ c
some_some b c h = cc

-- and nothing else is read
pub letter_read : (word : List ℕ) (c : ℕ) → letter_of word ≡ Some c → IsLetter c × (word ≡ priority_word c)
unfolding letter_of
letter_read word c h =
    let test = (length word == 3) && (get_or word 0 0 == 40) && (get_or word 2 0 == 41) && is_letter (get_or word 1 0) in
    elim (cases_Bool ((length word == 3) && (get_or word 0 0 == 40) && (get_or word 2 0 == 41) && is_letter (get_or word 1 0))) [
      | inl passed ↦
          let a = and_parts ((length word == 3) && (get_or word 0 0 == 40) && (get_or word 2 0 == 41)) (is_letter (get_or word 1 0)) passed in
          let b = and_parts ((length word == 3) && (get_or word 0 0 == 40)) (get_or word 2 0 == 41) a.0 in
          let d = and_parts (length word == 3) (get_or word 0 0 == 40) b.0 in
          let same : get_or word 1 0 ≡ c = some_some _ _ (rw passed at h) in
          let long : length word ≡ 3 = eqb-true (length word) 3 d.0 in
          let first : get_or word 0 0 ≡ 40 = eqb-true (get_or word 0 0) 40 d.1 in
          let last : get_or word 2 0 ≡ 41 = eqb-true (get_or word 2 0) 41 b.1 in
          let whole : word ≡ listed 3 0 word = listed-drop 3 0 word (sym long) in
          (rw (← same) (letter-true (get_or word 1 0) a.1), whole ∙ rw (first, last, same) refl)
      | inr failed ↦ absurd (no_some c (rw failed at h))
    ]
