-- Words and blanks.
use Rattle.std.proofs.Common.{◌≡◌, ℕ, true, false, not, List, [], ◌∷◌, ◌++◌, ◌==◌, ◌||◌, ◌<◌, suc, length, get_or, ap, inl, inr, refl, arith}
use Rattle.std.proofs.lemmas.Bool.{and_parts, and_from, and_right, not-true, ne_eqb, eq-eqb, eqb-true, cases_Bool}
use Rattle.tb_todotxt.specs.Line.{is_blank, is_free_of, marked}
use Rattle.tb_todotxt.specs.Reading.{first_word, after_word, has_more}

-- what has a word in it isn't blank
pub fills : (front rest : List ℕ) → is_blank rest ≡ false → is_blank (front ++ rest) ≡ false
fills [] rest full = full
fills (b ∷ bs) rest full = and_right ((b == 32) || (b == 9)) (is_blank (bs ++ rest)) (fills bs rest full)

pub free_head : (b : ℕ) (bs : List ℕ) (c : ℕ) → is_free_of c (b ∷ bs) ≡ true → b ≡ c → ⊥
free_head b bs c free e =
    let n : (b == c) ≡ false = not-true (b == c) (and_parts (not (b == c)) (is_free_of c bs) free).0 in
    let y : (b == c) ≡ true = eq-eqb b c e in absurd (cc)

-- a word ends at the first space
pub same_words : (word word' rest rest' : List ℕ) → is_free_of 32 word ≡ true → is_free_of 32 word' ≡ true → marked word rest ≡ marked word' rest' → (word ≡ word') × (rest ≡ rest')
same_words [] [] rest rest' free free' e = (refl, cc)
same_words [] (c ∷ cs) rest rest' free free' e = let head : c ≡ 32 = cc in absurd (free_head c cs 32 free' head)
same_words (b ∷ bs) [] rest rest' free free' e = let head : b ≡ 32 = cc in absurd (free_head b bs 32 free head)
same_words (b ∷ bs) (c ∷ cs) rest rest' free free' e =
    let tails : marked bs rest ≡ marked cs rest' = cc in
    let heads : b ≡ c = cc in
    let more = same_words bs cs rest rest' (and_parts (not (b == 32)) (is_free_of 32 bs) free).1 (and_parts (not (c == 32)) (is_free_of 32 cs) free').1 tails in
    let first = more.0 in
    (cc, more.1)

pub free_from : (word : List ℕ) (b : ℕ) → ((i : ℕ) → i < length word → get_or word i 0 ≡ b → ⊥) → is_free_of b word ≡ true
free_from [] b no_place = refl
free_from (c ∷ cs) b no_place =
    and_from (not (c == b)) (is_free_of b cs)
    (rw (ne_eqb c b (no_place 0 (omega arith))) refl)
    (free_from cs b (λ i h. no_place (suc i) (omega arith)))

-- of a word and a space, the word is the first
pub first_marked : (word rest : List ℕ) → is_free_of 32 word ≡ true → (first_word (marked word rest) ≡ word) × (after_word (marked word rest) ≡ rest)
first_marked [] rest free = (refl, refl)
first_marked (b ∷ bs) rest free =
    let parts = and_parts (not (b == 32)) (is_free_of 32 bs) free in
    let other : (b == 32) ≡ false = not-true (b == 32) parts.0 in
    let more = first_marked bs rest parts.1 in
    rw (other, more.0, more.1) (refl, refl)

-- without a space nothing follows the first word
pub no_more : (text : List ℕ) → is_free_of 32 text ≡ true → after_word text ≡ []
no_more [] free = refl
no_more (b ∷ bs) free =
    let parts = and_parts (not (b == 32)) (is_free_of 32 bs) free in
    let other : (b == 32) ≡ false = not-true (b == 32) parts.0 in
    rw other (no_more bs parts.1)

pub first_free : (text : List ℕ) → is_free_of 32 (first_word text) ≡ true
first_free [] = refl
first_free (b ∷ bs) = elim (cases_Bool (b == 32)) [ inl e ↦ rw e refl | inr e ↦ rw (e, e) (first_free bs) ]

-- where something follows the first space, the text is its first word, the space and that
pub split_first : (text : List ℕ) → has_more text ≡ true → text ≡ marked (first_word text) (after_word text)
split_first [] more = absurd (cc)
split_first (b ∷ bs) more =
    elim (cases_Bool (b == 32)) [
      | inl e ↦ let is : b ≡ 32 = eqb-true b 32 e in rw (e, is) refl
      | inr e ↦ let rest = split_first bs (rw e at more) in rw e (ap (λ t. b ∷ t) rest)
    ]
