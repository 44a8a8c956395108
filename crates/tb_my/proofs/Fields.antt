-- A word that is kept as a field is the same when it is read again.
use Rattle.std.proofs.Common.{◌≡◌, ◌∙◌, ap, sym, refl, ℕ, ◌+◌, ◌-◌, ◌<◌, Bool, true, false, List, [], ◌∷◌, ◌++◌, ◌&&◌, nat_lt, nat_le, IsUtf8, arith, true≢false}
use Rattle.std.proofs.lemmas.Bool.{le-leb, lt-ltb, ltb-false, ltb-true, ne_eqb}
use Rattle.std.proofs.lemmas.Str.{chars-encodes, encodes-chars, scalars-chars}
use Rattle.std.specs.Str.{chars, encode_utf8_all}
use lib.Utf8.{low_scalar, scalar, scalars}
use Rattle.tb_my.specs.Undo.{kept_char, kept_chars, kept_word, opened_char, opened_chars, opened_word}

opened_letter : (c : ℕ) → c < 32 → opened_char (c + 64) ≡ c
opened_letter c small =
    let far : nat_le 64 (c + 64) ≡ true = le-leb 64 (c + 64) (omega arith) in
    let near : nat_lt (c + 64) 96 ≡ true = lt-ltb (c + 64) 96 (omega arith) in
    let back : c + 64 - 64 ≡ c = omega arith in
    rw (far, near) back

opened_kept_char : (b : Bool) (c : ℕ) (cs : List ℕ) → nat_lt c 32 ≡ b → opened_chars false (kept_char c ++ cs) ≡ c ∷ opened_chars false cs
opened_kept_char true c cs e = rw e (ap (λ x. x ∷ opened_chars false cs) (opened_letter c (ltb-true c 32 e)))
opened_kept_char false c cs e = rw (e, ne_eqb c 1 (λ is. omega (arith, is, ltb-false c 32 e))) refl

opened_kept : (cs : List ℕ) → opened_chars false (kept_chars cs) ≡ cs
opened_kept [] = refl
opened_kept (c ∷ cs) = opened_kept_char (nat_lt c 32) c (kept_chars cs) refl ∙ ap (λ xs. c ∷ xs) (opened_kept cs)

scalars_both : (a b : Bool) → (a && b) ≡ true → (a ≡ true) × (b ≡ true)
scalars_both true b e = (refl, e)
scalars_both false b e = absurd (true≢false (sym e))

scalars_kept_char : (b : Bool) (c : ℕ) (cs : List ℕ) → nat_lt c 32 ≡ b → scalar c ≡ true → scalars cs ≡ true → scalars (kept_char c ++ cs) ≡ true
scalars_kept_char true c cs e s all = rw (e, low_scalar (c + 64) (omega (arith, ltb-true c 32 e)), all) refl
scalars_kept_char false c cs e s all = rw (e, s, all) refl

scalars_kept : (cs : List ℕ) → scalars cs ≡ true → scalars (kept_chars cs) ≡ true
scalars_kept [] e = refl
scalars_kept (c ∷ cs) e =
    let both = scalars_both (scalar c) (scalars cs) e in
    scalars_kept_char (nat_lt c 32) c (kept_chars cs) refl both.0 (scalars_kept cs both.1)

pub opened_kept_word : (word : List ℕ) → IsUtf8 word → opened_word (kept_word word) ≡ word
unfolding kept_word opened_word
opened_kept_word word u =
    ap (λ cs. encode_utf8_all (opened_chars false cs)) (chars-encodes (kept_chars (chars word)) (scalars_kept (chars word) (scalars-chars word u)))
    ∙ ap encode_utf8_all (opened_kept (chars word))
    ∙ encodes-chars word u
