-- Days by months.
use Rattle.std.proofs.Common.{◌≡◌, ℕ, ◌+◌, ◌-◌, ◌*◌, ◌/◌, ◌%◌, ◌<◌, ◌≤◌, ◌⊎◌, inl, inr, min, refl, sym, ◌∙◌, ap, subst, arith, ℤ, pos, ◌≤ℤ◌}
use Rattle.std.proofs.lemmas.Bool.{cases_lt}
use Rattle.jiff_core.specs.declared.civil.date.Date.{Date}
use Rattle.jiff_core.specs.Date.{epoch_day}
use Rattle.jiff_core.specs.Calendar.{days_in_month, days_from_civil, day_count}
use Rattle.jiff_core.proofs.SignedLemmas.{signed_arith}
use Rattle.jiff_core.proofs.CalendarLemmas.{days_from_civil-day_count, days_in_month_bounds, day_count-lt_year, day_count-lt_month}
use Rattle.tb_task.specs.Civil.{CivilDate, day_number}
use Rattle.tb_task.proofs.Dates.{IsReal, counted, civil, year_bound}
use Rattle.tb_recur.specs.Months.{IsClamped, months_later}

abbrev pub month_number : CivilDate → ℕ → ℕ
month_number d n = d.year * 12 + (d.month - 1) + n

real_later : (d : CivilDate) (n : ℕ) → IsReal d → IsReal (months_later d n)
real_later d n r =
    let bounds = days_in_month_bounds (pos (month_number d n / 12)) (month_number d n % 12 + 1) in
    let year = r.year in
    let day = r.day_from in
    record {
      year = omega arith;
      month_from = omega arith;
      month_to = omega arith;
      day_from = omega arith;
      day_to = omega arith;
    }

-- a month past the year 9999 has days past it
pub past : (d : CivilDate) (n : ℕ) → IsReal d → 119999 < month_number d n → 2932896 < day_number (months_later d n)
past d n r late =
    elim (cases_lt 2932896 (day_number (months_later d n))) [
      | inl lt ↦ lt
      | inr within ↦
          let bound = year_bound (months_later d n) (real_later d n r) within in
          absurd (omega arith)
    ]

-- a month that begins within the year 9999 is one of its months
pub month_bound : (d : CivilDate) (n : ℕ) → IsReal d → day_number (months_later d n) ≤ 2932896 → month_number d n ≤ 119999
month_bound d n r within = elim (cases_lt 119999 (month_number d n)) [ inl late ↦ (let beyond = past d n r late in absurd (omega arith)) | inr le ↦ le ]

later_month : (d : CivilDate) (a b : ℕ) → IsReal d → a < b → month_number d b ≤ 119999 → day_number (months_later d a) < day_number (months_later d b)
later_month d a b r lt within =
    let from = real_later d a r in
    let to = real_later d b r in
    let real = civil (months_later d a) from (omega arith) in
    elim (cases_lt (month_number d a / 12) (month_number d b / 12)) [
      | inl year ↦
          let sooner = day_count-lt_year (pos (months_later d a).year) (months_later d a).month (months_later d a).day
          (pos (months_later d b).year) (months_later d b).month (months_later d b).day real to.day_from (omega (arith, signed_arith, year)) in
          omega (arith, counted (months_later d a) from, counted (months_later d b) to, sooner)
      | inr past_year ↦
          let same : (months_later d b).year ≡ (months_later d a).year = omega arith in
          let sooner = day_count-lt_month (pos (months_later d a).year) (months_later d a).month (months_later d a).day
          (months_later d b).month (months_later d b).day real to.day_from (omega arith) in
          let here = subst (λ y. day_count (pos y) (months_later d b).month (months_later d b).day ≡ 4_371_953 + day_number (months_later d b)) same
          (counted (months_later d b) to) in
          omega (arith, counted (months_later d a) from, here, sooner)
    ]

-- more months later is no sooner
pub months_rise : (d : CivilDate) (a b : ℕ) → IsReal d → a ≤ b → day_number (months_later d b) ≤ 2932896 → day_number (months_later d a) ≤ day_number (months_later d b)
months_rise d a b r le within =
    let bound = month_bound d b r within in
    elim (cases_lt a b) [
      | inl lt ↦ let sooner = later_month d a b r lt bound in omega arith
      | inr not_before ↦ let same : a ≡ b = omega arith in subst (λ n. day_number (months_later d a) ≤ day_number (months_later d n)) same (omega arith)
    ]

on_date : (d : Date) (c : CivilDate) → IsReal c → d.year ≡ pos c.year → d.month ≡ c.month → d.day ≡ c.day → epoch_day d ≡ pos (day_number c)
on_date d c r year month day =
    rw (year, month, day) (omega (arith, signed_arith, days_from_civil-day_count (pos c.year) c.month c.day, counted c r))

pub clamped_is : (months day : ℕ) (d : Date) (c : CivilDate) (n : ℕ) → IsClamped months day d → IsReal c → months ≡ month_number c n → day ≡ c.day → epoch_day d ≡ pos (day_number (months_later c n))
clamped_is months day d c n h r e same =
    on_date d (months_later c n) (real_later c n r)
    (h.year ∙ ap (λ x. pos (x / 12)) e)
    (h.month ∙ ap (λ x. x % 12 + 1) e)
    (h.day_in ∙ rw (e, same) refl)

pub not_negative : (z : ℤ) (n : ℕ) → z ≡ pos n → pos 0 ≤ℤ z
not_negative z n e = omega (arith, signed_arith)

pub same_number : (z : ℤ) (m n : ℕ) → pos m ≡ z → z ≡ pos n → m ≡ n
same_number z m n e f = omega (arith, signed_arith)
