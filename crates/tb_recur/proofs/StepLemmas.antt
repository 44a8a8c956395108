-- A step that a text writes is at least a day.
use Rattle.std.proofs.Common.{◌≡◌, ℕ, ◌+◌, ◌-◌, ◌*◌, ◌<◌, ◌≤◌, Bool, true, false, ◌&&◌, nat_le, List, [], ◌∷◌, Option, Some, None, IfSome, if◌then◌else◌, bytes_eq, codes, refl, sym, ◌∙◌, ap, subst, arith, ◌⊎◌, inl, inr}
use Rattle.std.specs.Option.{option_map}
use Rattle.std.proofs.lemmas.Bool.{cases_Bool, leb-true}
use Rattle.tb_task.specs.declared.step.Step.{Step}
use Rattle.tb_task.specs.declared.step.Step.TheVariants.{Days, Weekdays, Months}
use Rattle.tb_task.specs.Step.{is_digit, is_first_digit, number_of, without_front, without_back, then_by, number_between, first_of_two, row_number, row_step, word_step, calendar_word_step, step_of}
use Rattle.tb_recur.specs.Dues.{IsStep}

if_else : {A : Type 0} (P : A → Type 0) (b : Bool) (x : A) (o : Option A) → P x → IfSome o P → IfSome (if b then Some x else o) P
if_else P true x o here rest = here
if_else P false x o here rest = rest

either : {A : Type 0} (P : A → Type 0) (a b : Option A) → IfSome a P → IfSome b P → IfSome (first_of_two a b) P
either P None b first second = second
either P (Some x) b first second = first

mapped : (P : Step → Type 0) (f : ℕ → Step) (o : Option ℕ) → IfSome o (λ n. 1 ≤ n) → ((n : ℕ) → 1 ≤ n → P (f n)) → IfSome (option_map f o) P
mapped P f None some each = tt
mapped P f (Some n) some each = each n some

chained : {A : Type 0} (o : Option A) (f : A → Option ℕ) → ((x : A) → IfSome (f x) (λ n. 1 ≤ n)) → IfSome (then_by o f) (λ n. 1 ≤ n)
chained None f each = tt
chained (Some x) f each = each x

word : (s : List ℕ) → IfSome (word_step s) IsStep
unfolding word_step
word s =
    if_else IsStep (bytes_eq s (codes "daily")) (Days 1) _ (omega arith)
    (if_else IsStep (bytes_eq s (codes "day")) (Days 1) _ (omega arith)
    (if_else IsStep (bytes_eq s (codes "weekdays")) Weekdays _ tt
    (if_else IsStep (bytes_eq s (codes "weekly")) (Days 7) _ (omega arith)
    (if_else IsStep (bytes_eq s (codes "biweekly")) (Days 14) _ (omega arith)
    (if_else IsStep (bytes_eq s (codes "fortnight")) (Days 14) None (omega arith) tt)))))

calendar_word : (s : List ℕ) → IfSome (calendar_word_step s) IsStep
unfolding calendar_word_step
calendar_word s =
    if_else IsStep (bytes_eq s (codes "monthly")) (Months 1) _ (omega arith)
    (if_else IsStep (bytes_eq s (codes "quarterly")) (Months 3) _ (omega arith)
    (if_else IsStep (bytes_eq s (codes "semiannual")) (Months 6) _ (omega arith)
    (if_else IsStep (bytes_eq s (codes "annual")) (Months 12) _ (omega arith)
    (if_else IsStep (bytes_eq s (codes "yearly")) (Months 12) _ (omega arith)
    (if_else IsStep (bytes_eq s (codes "biannual")) (Months 24) _ (omega arith)
    (if_else IsStep (bytes_eq s (codes "biyearly")) (Months 24) None (omega arith) tt))))))

first : (a b : Bool) → (a && b) ≡ true → a ≡ true
first true b h = refl
first false b h = h

if_test : (test : Bool) (n : ℕ) → (test ≡ true → 1 ≤ n) → IfSome (if test then Some n else None) (λ k. 1 ≤ k)
if_test true n some = some refl
if_test false n some = tt

not_zero : (a : ℕ) → is_first_digit a ≡ true → 1 ≤ a - 48
not_zero a h = omega (arith, leb-true 49 a (first (nat_le 49 a) (nat_le a 57) h))

number : (s : List ℕ) → IfSome (number_of s) (λ n. 1 ≤ n)
unfolding number_of
number [] = tt
number (a ∷ []) = if_test (is_first_digit a) (a - 48) (not_zero a)
number (a ∷ b ∷ []) =
    if_test (is_first_digit a && is_digit b) ((a - 48) * 10 + (b - 48))
    (λ h. omega (arith, not_zero a (first (is_first_digit a) (is_digit b) h)))
number (a ∷ b ∷ c ∷ []) =
    if_test (is_first_digit a && is_digit b && is_digit c) ((a - 48) * 100 + (b - 48) * 10 + (c - 48))
    (λ h. omega (arith, not_zero a (first (is_first_digit a) (is_digit b) (first (is_first_digit a && is_digit b) (is_digit c) h))))
number (a ∷ b ∷ c ∷ d ∷ s) = tt

between : (front back s : List ℕ) → IfSome (number_between front back s) (λ n. 1 ≤ n)
unfolding number_between
between front back s = chained (without_front front s) _ (λ rest. chained (without_back back rest) number_of number)

of_row : (short long s : List ℕ) → IfSome (row_number short long s) (λ n. 1 ≤ n)
unfolding row_number
of_row short long s = either (λ n. 1 ≤ n) (number_between [] short s) (number_between (codes "P") long s) (between [] short s) (between (codes "P") long s)

row : (step : ℕ → Step) (short long s : List ℕ) → ((n : ℕ) → 1 ≤ n → IsStep (step n)) → IfSome (row_step step short long s) IsStep
unfolding row_step
row step short long s each = mapped IsStep step (row_number short long s) (of_row short long s) each

pub steps_advance : (s : List ℕ) → IfSome (step_of s) IsStep
unfolding step_of
steps_advance s =
    either IsStep (word_step s) _ (word s)
    (either IsStep (calendar_word_step s) _ (calendar_word s)
    (either IsStep (row_step Days (codes "d") (codes "D") s) _ (row Days (codes "d") (codes "D") s (λ n h. h))
    (either IsStep (row_step (λ n. Days (7 * n)) (codes "w") (codes "W") s) _ (row (λ n. Days (7 * n)) (codes "w") (codes "W") s (λ n h. omega arith))
    (either IsStep (row_step Months (codes "mo") (codes "M") s) _ (row Months (codes "mo") (codes "M") s (λ n h. h))
    (row (λ n. Months (12 * n)) (codes "y") (codes "Y") s (λ n h. omega arith))))))
