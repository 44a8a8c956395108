-- Blanks at the end of a text.
use Rattle.std.proofs.Common.{◌≡◌, ℕ, List, [], ◌∷◌, ◌++◌, refl, sym, ap, ◌∙◌, true, false}
use Rattle.std.specs.Prelude.{reverse}
use Rattle.std.proofs.lemmas.List.{reverse-append, reverse-reverse}
use Rattle.tb_http.specs.Closing.{is_blank, without_start, without_end}

pub without_end_blank : (front : List ℕ) (last : ℕ) → is_blank last ≡ true → without_end (front ++ last ∷ []) ≡ without_end front
without_end_blank front last blank =
    ap (λ text. reverse (without_start text)) (reverse-append front (last ∷ [])) ∙ rw blank refl

pub without_end_other : (front : List ℕ) (last : ℕ) → is_blank last ≡ false → without_end (front ++ last ∷ []) ≡ front ++ last ∷ []
without_end_other front last other =
    ap (λ text. reverse (without_start text)) (reverse-append front (last ∷ [])) ∙ rw other (sym (ap reverse (reverse-append front (last ∷ []))) ∙ reverse-reverse (front ++ last ∷ []))
