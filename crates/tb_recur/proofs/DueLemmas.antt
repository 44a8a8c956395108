-- Dues rise with k, and there are fewer than days.
use Rattle.std.proofs.Common.{◌≡◌, ℕ, zero, suc, ◌+◌, ◌-◌, ◌*◌, ◌/◌, ◌%◌, ◌<◌, ◌≤◌, Bool, true, false, nat_le, Option, Some, None, if◌then◌else◌, refl, sym, ◌∙◌, ap, subst, arith, ◌⊎◌, inl, inr}
use Rattle.std.proofs.lemmas.Bool.{cases_Bool, leb-true, le-leb}
use Rattle.tb_task.specs.declared.step.Step.{Step}
use Rattle.tb_task.specs.declared.step.Step.TheVariants.{Days, Weekdays, Months}
use Rattle.tb_task.specs.Civil.{date_of, day_number}
use Rattle.tb_task.proofs.Dates.{dated}
use Rattle.tb_recur.specs.Months.{months_later}
use Rattle.tb_recur.specs.Dues.{if_moment, day_after, due, IsStep}
use Rattle.tb_recur.proofs.WeekdayLemmas.{nth_rises, nth_from}
use Rattle.tb_recur.proofs.MonthLemmas.{months_rise, month_bound}

-- a moment is its own second
moment_is : (s y : ℕ) → if_moment s ≡ Some y → (s ≡ y) × (s ≤ 253402300799)
moment_is s y h =
    elim (cases_Bool (nat_le s 253402300799)) [
      | inl within ↦ let is : Some s ≡ Some y = rw within at h in (cc, leb-true s 253402300799 within)
      | inr beyond ↦ let is : None ≡ Some y = rw beyond at h in absurd (cc)
    ]

moment_within : (s : ℕ) → s ≤ 253402300799 → if_moment s ≡ Some s
moment_within s le = rw (le-leb s 253402300799 le) refl

one_more : (n k : ℕ) → n * suc k ≡ n * k + n
one_more n k = omega arith

at_least : (n k : ℕ) → 1 ≤ n → k ≤ n * k
at_least n zero some = omega arith
at_least n (suc k) some = omega (arith, at_least n k some, one_more n k)

-- a step later is no sooner
day_rises : (day : ℕ) (s : Step) (k : ℕ) → day_after day s (suc k) ≤ 2932896 → day_after day s k ≤ day_after day s (suc k)
unfolding day_after
day_rises day (Days n) k within = omega (arith, one_more n k)
day_rises day Weekdays k within = omega (arith, nth_rises day k)
day_rises day (Months n) k within = months_rise (date_of day) (n * k) (n * suc k) (dated day).0 (omega (arith, one_more n k)) within

-- k steps take k days at least, or they end past the months that are counted
day_early : (day : ℕ) (s : Step) (k : ℕ) → IsStep s → day_after day s k ≤ 2932896 → k < 2932898
unfolding day_after
day_early day (Days n) k some within = omega (arith, within, at_least n k some)
day_early day Weekdays k some within = omega (arith, within, nth_from day k)
day_early day (Months n) k some within = omega (arith, month_bound (date_of day) (n * k) (dated day).0 within, at_least n k some)

-- where the next is due, this one is, and no later
pub due_rises : (d : ℕ) (s : Step) (k y : ℕ) → due d s (suc k) ≡ Some y → (x : ℕ) × (due d s k ≡ Some x) × (x ≤ y)
unfolding due
due_rises d s k y h =
    let is = moment_is (day_after (d / 86400) s (suc k) * 86400 + d % 86400) y h in
    let rises = day_rises (d / 86400) s k (omega (arith, is.1)) in (
      day_after (d / 86400) s k * 86400 + d % 86400,
      moment_within (day_after (d / 86400) s k * 86400 + d % 86400) (omega (arith, is.1, rises)),
      omega (arith, is.0, rises),
    )

-- there are few dues before the end
pub due_early : (d : ℕ) (s : Step) (k y : ℕ) → IsStep s → due d s k ≡ Some y → k < 2932898
unfolding due
due_early d s k y some h =
    let is = moment_is (day_after (d / 86400) s k * 86400 + d % 86400) y h in
    day_early (d / 86400) s k some (omega (arith, is.1))
