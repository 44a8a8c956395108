-- A word between quotes, a part at a time.
use Rattle.std.proofs.Common.{◌≡◌, ◌≢◌, ℕ, suc, ◌<◌, List, [], ◌∷◌, ◌++◌, codes, length, get_or, Some, option_map, refl, sym, ap, ◌∙◌, arith, append_assoc, append-nil, inl, inr, ne_eqb}
use Rattle.std.proofs.lemmas.Bool.{cases_eq}
use Rattle.tb_causes.specs.Shell.{between, outside, within, words_read}
use Rattle.tb_causes.specs.Unanswered.{escaped, quoted_words}

abbrev pub Lacks : ℕ → List ℕ → Type 0
Lacks c xs = (i : ℕ) → i < length xs → get_or xs i 0 ≢ c

-- a text without a quote is as it is
pub escaped_plain : (xs : List ℕ) → Lacks 39 xs → escaped xs ≡ xs
escaped_plain [] h = refl
escaped_plain (x ∷ xs) h =
    rw (ne_eqb x 39 (h 0 (omega arith)))
    (ap (λ l. x ∷ l) (escaped_plain xs (λ i less. h (suc i) (omega arith))))

-- a text up to its first quote, and what stands behind that
pub escaped_part : (xs rest : List ℕ) → Lacks 39 xs
    → escaped (xs ++ 39 ∷ rest) ≡ xs ++ (codes "'\\''" ++ escaped rest)
escaped_part [] rest h = refl
escaped_part (x ∷ xs) rest h =
    rw (ne_eqb x 39 (h 0 (omega arith)))
    (ap (λ l. x ∷ l) (escaped_part xs rest (λ i less. h (suc i) (omega arith))))

-- what was said and is to be said stays the whole over a part
pub escaped_step : (said part behind rest whole : List ℕ)
    → rest ≡ part ++ 39 ∷ behind → Lacks 39 part → said ++ escaped rest ≡ whole
    → ((said ++ part) ++ codes "'\\''") ++ escaped behind ≡ whole
escaped_step said part behind rest whole cut free held =
    append_assoc (said ++ part) (codes "'\\''") (escaped behind)
    ∙ append_assoc said part (codes "'\\''" ++ escaped behind)
    ∙ ap (λ l. said ++ l) (sym (escaped_part part behind free))
    ∙ ap (λ l. said ++ escaped l) (sym cut) ∙ held

-- ---- how a shell reads it

-- a word is read up to the quote at its end
read_within : (word said rest : List ℕ)
    → words_read within said (escaped word ++ 39 ∷ rest) ≡ words_read outside (said ++ word) rest
read_within [] said rest = ap (λ l. words_read outside l rest) (sym (append-nil said))
read_within (b ∷ bs) said rest = elim (cases_eq b 39) [
  | inl is ↦ rw is (read_within bs (said ++ 39 ∷ []) rest ∙ ap (λ l. words_read outside l rest) (append_assoc said (39 ∷ []) bs))
  | inr isnt ↦ rw (ne_eqb b 39 isnt) (rw (ne_eqb b 39 isnt) (read_within bs (said ++ b ∷ []) rest ∙ ap (λ l. words_read outside l rest) (append_assoc said (b ∷ []) bs)))
]

-- words behind one that ends
read_behind : (word : List ℕ) (words : List (List ℕ))
    → words_read between [] (quoted_words words) ≡ Some words
    → words_read outside word (quoted_words words) ≡ Some (word ∷ words)
read_behind word [] h = refl
read_behind word (next ∷ words) h = ap (option_map (λ l. word ∷ l)) h

pub are_read_again : (words : List (List ℕ))
    → words_read between [] (quoted_words words) ≡ Some words
are_read_again [] = refl
are_read_again (word ∷ words) =
    ap (words_read within []) (append_assoc (escaped word) (39 ∷ []) (quoted_words words))
    ∙ read_within word [] (quoted_words words) ∙ read_behind word words (are_read_again words)
