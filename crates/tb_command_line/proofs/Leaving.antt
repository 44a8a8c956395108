-- Words with and without an option.
use Rattle.std.proofs.Common.{◌≡◌, ◌∙◌, ℕ, zero, suc, ◌+◌, ◌-◌, ◌<◌, true, false, List, [], ◌∷◌, ◌++◌, map, take, drop, length, Option, Some, None, Result, refl, sym, ap, arith}
use Rattle.std.proofs.lemmas.List.{map-append, take-map, drop-map, take_all, length-drop}
use Rattle.tb_command_line.specs.declared.order.CleanMode.{CleanMode}
use Rattle.tb_command_line.specs.declared.order.Order.{Order}
use Rattle.tb_command_line.specs.declared.order.WordsFault.{WordsFault}
use Rattle.tb_command_line.specs.declared.order.WordsFault.TheVariants.{Bad, Memory, NoKey}
use Rattle.tb_command_line.specs.Order.{Text}
use Rattle.tb_command_line.specs.Outcome.{Fails}
use Rattle.tb_command_line.specs.Extra.{bursting, grown, growth_of, has_option, is_option_front, option_place, with_burst, with_growth, with_mode, with_page, without_option}

-- a fault stays with a folder
pub fails_paged : (page : Option Text) (fault : WordsFault) (expected : Result Order WordsFault) → Fails fault expected → Fails fault (with_page page expected)
fails_paged None fault expected fails = fails
fails_paged (Some page) Bad expected fails = ap (with_page (Some page)) fails
fails_paged (Some page) NoKey expected fails = ap (with_page (Some page)) fails
fails_paged (Some page) Memory expected fails = tt

-- and with a word that says that an import is cleaned
pub fails_cleaned : (mode : Option CleanMode) (fault : WordsFault) (expected : Result Order WordsFault) → Fails fault expected → Fails fault (with_mode mode expected)
fails_cleaned None fault expected fails = fails
fails_cleaned (Some mode) Bad expected fails = ap (with_mode (Some mode)) fails
fails_cleaned (Some mode) NoKey expected fails = ap (with_mode (Some mode)) fails
fails_cleaned (Some mode) Memory expected fails = tt

-- and with a growth, and with a burst
pub fails_grown : (growth : Option Text) (fault : WordsFault) (expected : Result Order WordsFault) → Fails fault expected → Fails fault (with_growth growth expected)
fails_grown None fault expected fails = fails
fails_grown (Some growth) Bad expected fails = ap (with_growth (Some growth)) fails
fails_grown (Some growth) NoKey expected fails = ap (with_growth (Some growth)) fails
fails_grown (Some growth) Memory expected fails = tt

pub fails_bursting : (burst : Option Text) (fault : WordsFault) (expected : Result Order WordsFault) → Fails fault expected → Fails fault (with_burst burst expected)
fails_bursting None fault expected fails = fails
fails_bursting (Some burst) Bad expected fails = ap (with_burst (Some burst)) fails
fails_bursting (Some burst) NoKey expected fails = ap (with_burst (Some burst)) fails
fails_bursting (Some burst) Memory expected fails = tt

pub here_place : (name : Text) (words : List Text) → is_option_front name words ≡ true → option_place name words ≡ 0
here_place name [] e = let bad : false ≡ true = e in absurd (cc)
here_place name (word ∷ []) e = let bad : false ≡ true = e in absurd (cc)
here_place name (word ∷ text ∷ rest) e = rw e refl

after_place : (name word : Text) (rest : List Text) → is_option_front name (word ∷ rest) ≡ false → option_place name (word ∷ rest) ≡ 1 + option_place name rest
after_place name word rest e = rw e (omega arith)

pub next_place : {A : Type 0} (f : A → Text) (name : Text) (words : List A) (i : ℕ) → i < length words → is_option_front name (drop i (map f words)) ≡ false
    → option_place name (drop i (map f words)) ≡ 1 + option_place name (drop (suc i) (map f words))
next_place f name [] i inside e = absurd (omega (arith, inside))
next_place f name (word ∷ words) zero inside e = after_place name (f word) (map f words) e
next_place f name (word ∷ words) (suc i) inside e = next_place f name words i (omega (arith, inside)) e

pub whole_behind : {A : Type 0} (words : List A) (place : ℕ) → take (length words - place) (drop place words) ≡ drop place words
whole_behind words place = let short = length-drop place words in take_all (length words - place) (drop place words) (omega (arith, short))

pub words_behind : {A : Type 0} (f : A → Text) (words : List A) (place : ℕ)
    → map f (take (length words - place) (drop place words)) ≡ drop place (map f words)
words_behind f words place = ap (map f) (whole_behind words place) ∙ sym (drop-map f place words)

-- the words without two of them
pub left_out : {A : Type 0} (f : A → Text) (name : Text) (words rest : List A) (place : ℕ) → has_option name (map f words) ≡ true → place ≡ option_place name (map f words)
    → rest ≡ take place words ++ drop (place + 2) words → map f rest ≡ without_option name (map f words)
left_out f name words rest place has placed is =
    ap (map f) is ∙ (map-append f (take place words) (drop (place + 2) words)
    ∙ rw (has, ← placed) (ap (λ front. front ++ map f (drop (place + 2) words)) (sym (take-map f place words))
    ∙ ap (λ back. take place (map f words) ++ back) (sym (drop-map f (place + 2) words))))
