-- How many entries a page shows.
use Rattle.std.proofs.Common.{◌≡◌, ℕ, zero, suc, ◌+◌, ◌-◌, ◌≤◌, ◌<◌, List, [], ◌∷◌, length, take, drop, filter, refl, sym, ◌∙◌, ap, arith}
use Rattle.std.specs.List.{slice_get}
use Rattle.std.specs.Option.{option_map}
use Rattle.std.proofs.lemmas.List.{length-drop, take-append-drop}
use Rattle.tb_history.specs.declared.entry.Entry.{Entry}
use Rattle.tb_history.specs.declared.page.Which.TheVariants.{Last, From, OfPlace}
use Rattle.tb_history.specs.Laws.{ChosenAreFew, FewAreAllShown, FromEachNumberOn, LastStandAtTheEnd}
use Rattle.tb_history.specs.History.{numbered}
use Rattle.tb_history.specs.Pages.{is_about, last_of}
use Rattle.tb_history.proofs.Numbering.{numbers_follow}

last_few : {X : Type 0} (count : ℕ) (xs : List X) → length (last_of count xs) ≤ count
last_few count xs = omega (arith, length-drop (length xs - count) xs)

take_few : {X : Type 0} (n : ℕ) (xs : List X) → length (take n xs) ≤ n
take_few zero xs = omega arith
take_few (suc n) [] = omega arith
take_few (suc n) (x ∷ xs) = omega (arith, take_few n xs)

pub chosen_few : ChosenAreFew
chosen_few Last es = last_few 100 es
chosen_few (From n) es = take_few 100 (drop (n - 1) es)
chosen_few (OfPlace at) es = last_few 100 (filter (is_about at) es)

get_taken : {X : Type 0} (n : ℕ) (xs : List X) (place : ℕ) → place < n → slice_get (take n xs) place ≡ slice_get xs place
get_taken zero xs place within = absurd (omega (arith, within))
get_taken (suc n) [] place within = refl
get_taken (suc n) (x ∷ xs) zero within = refl
get_taken (suc n) (x ∷ xs) (suc place) within = get_taken n xs place (omega (arith, within))

get_dropped : {X : Type 0} (n : ℕ) (xs : List X) (place : ℕ) → slice_get (drop n xs) place ≡ slice_get xs (n + place)
get_dropped zero xs place = let same : place ≡ 0 + place = omega arith in ap (slice_get xs) same
get_dropped (suc n) [] place = refl
get_dropped (suc n) (x ∷ xs) place =
    let same : suc (n + place) ≡ suc n + place = omega arith in
    get_dropped n xs place ∙ ap (slice_get (x ∷ xs)) same

pub from_number : FromEachNumberOn
from_number n place es first within =
    let all = numbered 1 es in
    let at : (n - 1) + place ≡ n + place - 1 = omega (arith, first) in
    let number : (n + place - 1) + 1 ≡ n + place = omega (arith, first) in
    get_taken 100 (drop (n - 1) all) place within
    ∙ get_dropped (n - 1) all place
    ∙ ap (slice_get all) at
    ∙ numbers_follow es (n + place - 1)
    ∙ ap (λ k. option_map (λ (e : Entry). (k, e)) (slice_get es (n + place - 1))) number

pub few_all : FewAreAllShown
few_all es few =
    let none : length es - 100 ≡ 0 = omega (arith, few) in
    ap (λ n. drop n es) none

pub last_at_end : LastStandAtTheEnd
last_at_end count es = sym (take-append-drop (length es - count) es)
