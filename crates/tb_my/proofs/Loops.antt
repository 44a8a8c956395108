-- A loop that puts at the end what each item gives.
use Rattle.std.proofs.Common.{◌≡◌, ◌∙◌, ℕ, ◌+◌, ◌<◌, List, ◌∷◌, ◌++◌, length, get_or, drop, ap, sym, append_assoc}
use Rattle.std.proofs.lemmas.List.{at_drop_more}

pub one_more : {X Y : Type 0} (F : List X → List Y) (xs : List X) (i : ℕ) (x : X) (part done after all : List Y)
    → i < length xs → x ≡ get_or xs i x → F (x ∷ drop (i + 1) xs) ≡ part ++ F (drop (i + 1) xs) → after ≡ done ++ part
    → done ++ F (drop i xs) ≡ all → after ++ F (drop (i + 1) xs) ≡ all
one_more F xs i x part done after all within is step put so =
    let rest = drop (i + 1) xs in
    ap (λ l. l ++ F rest) put
    ∙ append_assoc done part (F rest)
    ∙ ap (λ l. done ++ l) (sym step)
    ∙ ap (λ y. done ++ F (y ∷ rest)) is
    ∙ ap (λ l. done ++ l) (sym (at_drop_more F xs i x within))
    ∙ so
