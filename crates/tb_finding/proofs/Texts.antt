-- What a text begins with, and what it contains.
use Rattle.std.proofs.Common.{◌≡◌, ◌==◌, ◌<◌, ◌≤◌, ◌+◌, ◌-◌, ◌||◌, ℕ, Bool, false, List, [], ◌∷◌, length, take, drop, length-drop, refl, sym, ap, ◌∙◌, arith}
use Rattle.std.proofs.Math.Bool.{and-false}
use Rattle.std.proofs.lemmas.Bool.Decides.{nat_tests}
use Rattle.std.proofs.lemmas.List.{at_drop_more, at_drop_all, take_all}
use Rattle.tb_finding.specs.Tests.{begins, contains}

-- a text that is shorter than the part doesn't begin with it
pub shorter_text : (part text : List ℕ) → length text < length part → begins part text ≡ false
shorter_text [] text short = absurd (omega arith)
shorter_text (byte ∷ part) [] short = refl
shorter_text (byte ∷ part) (other ∷ text) short = rw (shorter_text part text (omega arith)) (and-false _)

unequal : (n m : ℕ) → m < n → false ≡ (n == m)
unequal n m more = grind (arith, nat_tests)

-- nothing begins with something
pub nothing_begins : (part : List ℕ) → begins part [] ≡ (length part == 0)
nothing_begins [] = refl
nothing_begins (byte ∷ part) = unequal (length (byte ∷ part)) 0 (omega arith)

-- a part is at a place of a text or after it
pub contains_from : (part text : List ℕ) (i : ℕ) → i < length text → contains part (drop i text) ≡ (begins part (drop i text) || contains part (drop (i + 1) text))
contains_from part text i below =
    at_drop_more (contains part) text i 0 below
    ∙ ap (λ b. b || contains part (drop (i + 1) text)) (sym (at_drop_more (begins part) text i 0 below))

-- at the end of a text only nothing begins
pub contains_at_end : (part text : List ℕ) (i : ℕ) → length text ≤ i → contains part (drop i text) ≡ (length part == 0)
contains_at_end part text i end = at_drop_all (contains part) text i end ∙ nothing_begins part

-- all that a text has from a place on
pub rest_whole : (text : List ℕ) (i : ℕ) → take (length text - i) (drop i text) ≡ drop i text
rest_whole text i = take_all (length text - i) (drop i text) (omega (arith, length-drop i text))

-- what a part's stand at a place says of the text from there on
pub found_or_later : (part text : List ℕ) (i : ℕ) (at : Bool) → i < length text → at ≡ begins part (take (length text - i) (drop i text)) → (at || contains part (drop (i + 1) text)) ≡ contains part (drop i text)
found_or_later part text i at below e =
    ap (λ b. b || contains part (drop (i + 1) text)) (e ∙ ap (begins part) (rest_whole text i))
    ∙ sym (contains_from part text i below)
