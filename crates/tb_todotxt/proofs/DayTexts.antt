-- The text of a day is read as the day, and nothing else is.
use Rattle.std.proofs.Common.{◌≡◌, ◌∙◌, ℕ, ◌+◌, ◌-◌, ◌*◌, ◌/◌, ◌%◌, ◌<◌, ◌≤◌, inl, inr, true, ◌&&◌, ◌==◌, List, [], ◌∷◌, ◌++◌, length, drop, get_or, Option, Some, None, option_map, codes, refl, sym, ap, arith}
use Rattle.std.specs.Str.{IsAscii}
use Rattle.std.proofs.lemmas.Bool.{cases_Bool, and_parts, eqb-true}
use Rattle.std.proofs.lemmas.Str.Ascii.{IsAscii-nil, IsAscii-cons}
use Rattle.tb_task.specs.Civil.{date_of}
use Rattle.tb_task.specs.MomentText.{moment_text, moment_of, date_in, two, four}
use Rattle.tb_task.proofs.Dates.{day_bound}
use Rattle.tb_task.proofs.Forms.{IsDigit, number_in, listed, listed-drop}
use Rattle.tb_task.proofs.MomentTexts.{read_only, read_text, text_read}
use Rattle.tb_todotxt.specs.Day.{IsDay, day_text, day_of, has_hyphens, first_second, start_of}

-- the text of a moment's date, without hyphens
abbrev pub digits_of : ℕ → List ℕ
digits_of n = four (date_of n).year ++ two (date_of n).month ++ two (date_of n).day

-- the text of the first second of a day
pub start_text : (n : ℕ) → moment_text (start_of n) ≡ digits_of n ++ codes "T000000Z"
unfolding moment_text
start_text n =
    let day : n * 86400 / 86400 ≡ n = omega arith in
    let clock : n * 86400 % 86400 ≡ 0 = omega arith in
    rw (day, clock) refl

pub hyphens_there : (n : ℕ) → has_hyphens (day_text n) ≡ true
unfolding day_text
hyphens_there n = refl

pub start_of_text : (n : ℕ) → first_second (day_text n) ≡ moment_text (start_of n)
unfolding day_text
start_of_text n = sym (start_text n)

-- what is written is read again
pub read_day : (n : ℕ) → IsDay n → day_of (day_text n) ≡ Some n
unfolding day_of
read_day n is =
    let read : moment_of (first_second (day_text n)) ≡ Some (n * 86400) = ap moment_of (start_of_text n) ∙ read_text (n * 86400) (omega (arith, is)) in
    let day : n * 86400 / 86400 ≡ n = omega arith in
    rw (hyphens_there n, read) (ap Some day)

pub record HasHyphens (s : List ℕ) : Type 0 where
  pub long : length s ≡ 10
  pub first : get_or s 4 0 ≡ 45
  pub second : get_or s 7 0 ≡ 45

pub hyphens : (s : List ℕ) → has_hyphens s ≡ true → HasHyphens s
hyphens s h =
    let a = and_parts ((length s == 10) && (get_or s 4 0 == 45)) (get_or s 7 0 == 45) h in
    let b = and_parts (length s == 10) (get_or s 4 0 == 45) a.0 in
    record { long = eqb-true (length s) 10 b.0; first = eqb-true (get_or s 4 0) 45 b.1; second = eqb-true (get_or s 7 0) 45 a.1 }

-- digits of a moment's text, with hyphens
abbrev pub hyphened : List ℕ → List ℕ
hyphened s =
    get_or s 0 0 ∷ get_or s 1 0 ∷ get_or s 2 0 ∷ get_or s 3 0 ∷ 45 ∷ get_or s 4 0 ∷ get_or s 5 0 ∷ 45 ∷ get_or s 6 0 ∷ get_or s 7 0 ∷ []

pub hyphened_text : (n m : ℕ) (s : List ℕ) → s ≡ moment_text m → m ≡ start_of n → hyphened s ≡ day_text n
unfolding day_text
hyphened_text n m s is same = ap hyphened (is ∙ ap moment_text same ∙ start_text n)

pub IsAscii-hyphened : (s : List ℕ) → IsAscii s → IsAscii (hyphened s)
IsAscii-hyphened s ascii =
    let low : 45 < 128 = omega arith in
    IsAscii-cons (get_or s 0 0) (drop 1 (hyphened s)) (ascii 0) (
    IsAscii-cons (get_or s 1 0) (drop 2 (hyphened s)) (ascii 1) (
    IsAscii-cons (get_or s 2 0) (drop 3 (hyphened s)) (ascii 2) (
    IsAscii-cons (get_or s 3 0) (drop 4 (hyphened s)) (ascii 3) (
    IsAscii-cons 45 (drop 5 (hyphened s)) low (
    IsAscii-cons (get_or s 4 0) (drop 6 (hyphened s)) (ascii 4) (
    IsAscii-cons (get_or s 5 0) (drop 7 (hyphened s)) (ascii 5) (
    IsAscii-cons 45 (drop 8 (hyphened s)) low (
    IsAscii-cons (get_or s 6 0) (drop 9 (hyphened s)) (ascii 6) (
    IsAscii-cons (get_or s 7 0) [] (ascii 7) IsAscii-nil)))))))))

-- a text of ten bytes with hyphens is its digits with hyphens
pub again : (s : List ℕ) → has_hyphens s ≡ true → s ≡ hyphened (first_second s)
again s h =
    let f = hyphens s h in
    let first : get_or s 4 0 ≡ 45 = f.first in
    let second : get_or s 7 0 ≡ 45 = f.second in
    let whole : s ≡ listed 10 0 s = listed-drop 10 0 s (sym f.long) in
    whole ∙ rw (first, second) refl

no_some : (n : ℕ) → None ≡ Some n → ⊥
no_some n h = cc

some_some : (m n : ℕ) → Some m ≡ Some n → m ≡ n
some_some m n h = cc

value_small : (a b : ℕ) → IsDigit a → IsDigit b → (a - 48) * 10 + (b - 48) < 100
value_small a b p q = omega (arith, p.to, q.to)

-- only the moments from 1970 to 9999 have texts
last_moment : (s : List ℕ) (m : ℕ) → moment_of s ≡ Some m → m ≤ 253402300799
last_moment s m h =
    let r = read_only s m h in
    let form = r.0.form in
    let y = number_in s 0 form refl in
    let z = number_in s 2 form refl in
    let high = value_small _ _ y.first y.second in
    let low = value_small _ _ z.first z.second in
    let last : (date_in s).year ≤ 9999 = omega (arith, high, low) in
    let bound = day_bound (date_in s) r.0.date last in
    omega (arith, bound, r.1, r.0.hour, r.0.minute, r.0.second)

pub digits_day : (m : ℕ) → hyphened (moment_text m) ≡ day_text (m / 86400)
unfolding moment_text day_text
digits_day m = refl

day_from : (s : List ℕ) (o : Option ℕ) (n : ℕ) → has_hyphens s ≡ true → moment_of (first_second s) ≡ o → option_map (λ m. m / 86400) o ≡ Some n → IsDay n × (s ≡ day_text n)
day_from s None n h is e = absurd (no_some n e)
day_from s (Some m) n h is e =
    let day : m / 86400 ≡ n = some_some _ _ e in
    let last = last_moment (first_second s) m is in
    (omega (arith, last, day), again s h ∙ ap hyphened (text_read (first_second s) m is) ∙ digits_day m ∙ ap day_text day)

-- what is read is what is written of the day
pub day_read : (s : List ℕ) (n : ℕ) → day_of s ≡ Some n → IsDay n × (s ≡ day_text n)
unfolding day_of
day_read s n h =
    elim (cases_Bool (has_hyphens s)) [
      | inl passed ↦ day_from s (moment_of (first_second s)) n passed refl (rw passed at h)
      | inr failed ↦ absurd (no_some n (rw failed at h))
    ]
