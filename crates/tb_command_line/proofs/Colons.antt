-- Where a text is split at the last of its bytes that is an ASCII character.
use Rattle.std.proofs.Common.{◌≡◌, ◌∙◌, ℕ, zero, suc, ◌+◌, ◌-◌, ◌≤◌, ◌<◌, List, length, get_or, take, drop, Option, Some, None, MatchOption, option_map, Bor, refl, sym, ap, ⊎_elim, arith, eq-eqb, ne_eqb, length-drop, get_or-drop}
use Rattle.std.specs.Path.{rfind_below, rsplit_once}
use Rattle.std.specs.Str.Pattern.{RFindsChar}
use Rattle.std.proofs.lemmas.Bool.{cond-true, cond-false, cases_eq}
use Rattle.std.proofs.lemmas.Str.{len_utf8_ascii}
use Rattle.std.proofs.lemmas.Str.Pattern.{NoCharPasses-char}

none_below : (c : ℕ) (text : List ℕ) (n : ℕ) → ((i : ℕ) → i < n → get_or text i 0 ≡ c → ⊥) → rfind_below c text n ≡ None
none_below c text zero lacks = refl
none_below c text (suc n) lacks =
    cond-false _ _ _ (ne_eqb _ c (lacks n (omega arith))) ∙ none_below c text n (λ i inside. lacks i (omega arith))

last_below : (c : ℕ) (text : List ℕ) (k n : ℕ) → k < n → get_or text k 0 ≡ c → ((i : ℕ) → k < i → i < n → get_or text i 0 ≡ c → ⊥)
    → rfind_below c text n ≡ Some k
last_below c text k zero inside here lacks = absurd (omega arith)
last_below c text k (suc n) inside here lacks =
    ⊎_elim
    (λ same. cond-true _ _ _ (eq-eqb _ c (ap (λ j. get_or text j 0) (sym same) ∙ here)) ∙ ap (λ j. Some j) (sym same))
    (λ other. cond-false _ _ _ (ne_eqb _ c (lacks n (omega arith) (omega arith)))
    ∙ last_below c text k n (omega arith) here (λ i behind below. lacks i behind (omega arith)))
    (cases_eq k n)

-- takes the clause of `rsplit_once` at an ASCII character
pub split_at_last : (c : ℕ) (text : List ℕ) (r : Option (Bor (List ℕ) × Bor (List ℕ)))
    → MatchOption r (RFindsChar c text None) (λ x. (i : ℕ) × (j : ℕ) × RFindsChar c text (Some (i, j)) × (x.0.now ≡ take i text) × (x.1.now ≡ drop j text) × (i ≤ j) × (length x.0.now ≡ i) × (length x.1.now + j ≡ length text))
    → c < 128 → option_map (λ x. (x.0.now, x.1.now)) r ≡ rsplit_once c text
unfolding rsplit_once
split_at_last c text None clause low =
    sym (ap (option_map (λ i. (take i text, drop (i + 1) text))) (none_below c text (length text) (λ i. NoCharPasses-char c text i clause low)))
split_at_last c text (Some x) clause low =
    let i = clause.0 in
    let j = clause.1 in
    let next : j ≡ i + 1 = omega (arith, clause.2.1.ends, len_utf8_ascii c low) in
    let lacks : (k : ℕ) → i < k → k < length text → get_or text k 0 ≡ c → ⊥ = λ k behind below here.
    let back : j + (k - j) ≡ k = omega arith in
    NoCharPasses-char c (drop j text) (k - j) clause.2.0 low (omega (arith, length-drop j text)) (get_or-drop j text (k - j) 0 ∙ ap (λ n. get_or text n 0) back ∙ here) in
    let found = last_below c text i (length text) (omega (arith, clause.7)) (clause.2.1.byte low) lacks in
    let second = clause.4 ∙ ap (λ n. drop n text) next in
    (λ t. Some (clause.3 t, second t)) ∙ sym (ap (option_map (λ k. (take k text, drop (k + 1) text))) found)
