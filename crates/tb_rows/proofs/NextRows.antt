-- Rows that are made place by place.
use Rattle.std.proofs.Common.{◌≡◌, ℕ, ◌+◌, ◌<◌, List, [], ◌∷◌, ◌++◌, get_or, length, take, sym, ◌∙◌, ap, arith}
use Rattle.std.proofs.lemmas.List.{append-nil, append_assoc, length-take, take_more}
use Rattle.tb_rows.specs.Rows.{rows_from}

rows_last : {A B : Type 0} (f : ℕ → A → List B) (n : ℕ) (xs : List A) (x : A) (m : ℕ) → m ≡ n + length xs → rows_from f n (xs ++ x ∷ []) ≡ rows_from f n xs ++ f m x
rows_last f n [] x m e = let same : n ≡ m = omega (arith, e) in append-nil (f n x) ∙ ap (λ k. f k x) same
rows_last f n (y ∷ ys) x m e = ap (λ l. f n y ++ l) (rows_last f (n + 1) ys x m (omega (arith, e))) ∙ sym (append_assoc (f n y) (rows_from f (n + 1) ys) (f m x))

-- the rows of one item more, where places are counted from 1
pub rows_more : {A B : Type 0} (f : ℕ → A → List B) (xs : List A) (k : ℕ) (x : A) (now later : List B) → k < length xs → x ≡ get_or xs k x → now ≡ rows_from f 1 (take k xs) → later ≡ now ++ f (k + 1) x
    → later ≡ rows_from f 1 (take (k + 1) xs)
rows_more f xs k x now later within at is next =
    let size : k + 1 ≡ 1 + length (take k xs) = omega (arith, length-take k xs, within) in
    next ∙ ap (λ l. l ++ f (k + 1) x) is ∙ sym (rows_last f 1 (take k xs) x (k + 1) size)
    ∙ ap (rows_from f 1) (ap (λ y. take k xs ++ y ∷ []) at ∙ sym (take_more xs k x within))
