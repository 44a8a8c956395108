-- What sets have after items come and go.
use Rattle.std.proofs.Common.{◌≡◌, ℕ, ◌+◌, ◌<◌, ◌&&◌, ◌||◌, not, Bool, true, false, cond, List, [], ◌∷◌, ◌++◌, length, get_or, take, refl, sym, ◌∙◌, ap}
use Rattle.std.specs.List.{list_any}
use Rattle.std.proofs.lemmas.List.{take_more}
use Rattle.std.proofs.lemmas.List.Folds.{list_any-append}

pub or_false : (p : Bool) → (p || false) ≡ p
or_false true = refl
or_false false = refl

-- one more item
pub any_next : {A : Type 0} (p : A → Bool) (xs : List A) (i : ℕ) (x : A) → i < length xs → x ≡ get_or xs i x → list_any p (take (i + 1) xs) ≡ (list_any p (take i xs) || p x)
any_next p xs i x within is =
    ap (list_any p) (take_more xs i x within) ∙ ap (λ y. list_any p (take i xs ++ y ∷ [])) (sym is)
    ∙ list_any-append p (take i xs) (x ∷ []) ∙ ap (λ q. list_any p (take i xs) || q) (or_false (p x))

pub came : (p q : Bool) → cond p true q ≡ (q || p)
came true true = refl
came true false = refl
came false true = refl
came false false = refl

pub went : (p q : Bool) → cond p false q ≡ (q && not p)
went true true = refl
went true false = refl
went false true = refl
went false false = refl
