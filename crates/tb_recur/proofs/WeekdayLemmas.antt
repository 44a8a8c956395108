-- Counts of weekdays.
use Rattle.std.proofs.Common.{◌≡◌, ◌⊎◌, inl, inr, ℕ, zero, suc, ◌+◌, ◌-◌, ◌*◌, ◌/◌, ◌%◌, ◌<◌, ◌≤◌, min, Bool, true, false, nat_lt, refl, sym, ◌∙◌, ap, subst, arith, if◌then◌else◌}
use Rattle.std.proofs.lemmas.Bool.{cases_Bool, ltb-true, ltb-false, lt-ltb}
use Rattle.tb_recur.specs.Weekdays.{is_weekday, weekdays_after, weekdays_to, IsWeekdayAfter, next_weekday, nth_weekday}

to_next : (day : ℕ) → weekdays_to (day + 1) ≡ weekdays_to day + (if is_weekday (day + 1) then 1 else 0)
to_next day =
    elim (cases_Bool (is_weekday (day + 1))) [
      | inl yes' ↦ let lt = ltb-true ((day + 1 + 3) % 7) 5 yes' in rw yes' (omega arith)
      | inr no' ↦ let le = ltb-false ((day + 1 + 3) % 7) 5 no' in rw no' (omega arith)
    ]

pub after_to : (day j : ℕ) → weekdays_after day j + weekdays_to day ≡ weekdays_to (day + j)
after_to day zero = let same : day + 0 ≡ day = omega arith in rw same (omega arith)
after_to day (suc j) =
    let next : day + suc j ≡ day + j + 1 = omega arith in
    rw next (omega (arith, after_to day j, to_next (day + j)))

-- the day with that place among the weekdays
pub nth_is : (place : ℕ) → (later : ℕ) → later + 3 ≡ place / 5 * 7 + place % 5 → (weekdays_to later ≡ place + 1) × (is_weekday later ≡ true)
nth_is place later is = (omega arith, lt-ltb ((later + 3) % 7) 5 (omega arith))

pub weekday_found : (day k later : ℕ) → 1 ≤ k → later + 3 ≡ (weekdays_to day + k - 1) / 5 * 7 + (weekdays_to day + k - 1) % 5 → IsWeekdayAfter day k later
weekday_found day k later some is =
    let nth = nth_is (weekdays_to day + k - 1) later is in
    let reached : day ≤ later = not_before day k later some nth.0 in
    let place : later ≡ day + (later - day) = omega arith in
    let there : weekdays_to (day + (later - day)) ≡ weekdays_to later = ap weekdays_to (sym place) in
    record {
      distance = later - day;
      place = place;
      weekday = nth.1;
      count = omega (arith, after_to day (later - day), there, nth.0);
    }
  where
    not_before : (day k later : ℕ) → 1 ≤ k → weekdays_to later ≡ weekdays_to day + k - 1 + 1 → day ≤ later
    not_before day k later some at =
        elim (cases_Bool (nat_lt later day)) [
          | inl before ↦
              let lt = ltb-true later day before in
              let place : later + (day - later) ≡ day = omega arith in
              absurd (omega (arith, after_to later (day - later), ap weekdays_to place))
          | inr from ↦ ltb-false later day from
        ]

-- a weekday is known by how many weekdays there are up to it
pub weekday_is : (a b : ℕ) → is_weekday a ≡ true → is_weekday b ≡ true → weekdays_to a ≡ weekdays_to b → a ≡ b
weekday_is a b p q e =
    let a-low = ltb-true ((a + 3) % 7) 5 p in
    let b-low = ltb-true ((b + 3) % 7) 5 q in
    omega arith

next_is : (day : ℕ) → (is_weekday (next_weekday day) ≡ true) × (weekdays_to (next_weekday day) ≡ weekdays_to day + 1)
next_is day =
    elim (cases_Bool (is_weekday (day + 1))) [
      | inl one ↦ let lt = ltb-true ((day + 1 + 3) % 7) 5 one in rw one (one, omega arith)
      | inr rest ↦
          let le = ltb-false ((day + 1 + 3) % 7) 5 rest in
          elim (cases_Bool (is_weekday (day + 2))) [
            | inl two ↦ let lt = ltb-true ((day + 2 + 3) % 7) 5 two in rw (rest, two) (two, omega arith)
            | inr none ↦
                let gt = ltb-false ((day + 2 + 3) % 7) 5 none in
                rw (rest, none) (lt-ltb ((day + 3 + 3) % 7) 5 (omega arith), omega arith)
          ]
    ]

nth_to : (day k : ℕ) → weekdays_to (nth_weekday day k) ≡ weekdays_to day + k
unfolding nth_weekday
nth_to day zero = omega arith
nth_to day (suc k) = omega (arith, (next_is (nth_weekday day k)).1, nth_to day k)

nth_weekday_is : (day k : ℕ) → 1 ≤ k → is_weekday (nth_weekday day k) ≡ true
unfolding nth_weekday
nth_weekday_is day zero some = absurd (omega arith)
nth_weekday_is day (suc k) some = (next_is (nth_weekday day k)).0

next_from : (day : ℕ) → day + 1 ≤ next_weekday day
next_from day = grind arith

pub nth_rises : (day k : ℕ) → nth_weekday day k + 1 ≤ nth_weekday day (suc k)
unfolding nth_weekday
nth_rises day k = next_from (nth_weekday day k)

pub nth_from : (day k : ℕ) → day + k ≤ nth_weekday day k
unfolding nth_weekday
nth_from day zero = omega arith
nth_from day (suc k) = omega (arith, nth_from day k, next_from (nth_weekday day k))

pub weekday_after_is : (day k later : ℕ) → 1 ≤ k → IsWeekdayAfter day k later → later ≡ nth_weekday day k
weekday_after_is day k later some h =
    let there : weekdays_to (day + h.distance) ≡ weekdays_to later = ap weekdays_to (sym h.place) in
    weekday_is later (nth_weekday day k) h.weekday (nth_weekday_is day k some)
    (omega (arith, there, after_to day h.distance, h.count, nth_to day k))

pub nth_is_after : (day k : ℕ) → 1 ≤ k → IsWeekdayAfter day k (nth_weekday day k)
nth_is_after day k some =
    let later = nth_weekday day k in
    let from : day ≤ later = omega (arith, nth_from day k) in
    let place : later ≡ day + (later - day) = omega arith in
    let there : weekdays_to (day + (later - day)) ≡ weekdays_to later = ap weekdays_to (sym place) in
    record {
      distance = later - day;
      place = place;
      weekday = nth_weekday_is day k some;
      count = omega (arith, after_to day (later - day), there, nth_to day k);
    }
