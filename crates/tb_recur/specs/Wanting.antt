-- Which instances of a template are wanted.
use Rattle.std.specs.Prelude.{◌≡◌, ◌≤◌, ℕ, zero, suc, ◌+◌, ◌-◌, Bool, true, false, ◌&&◌, Option, Some, None, if◌then◌else◌, nat_le, nat_lt}
use Rattle.tb_recur.specs.declared.plan.Plan.{Plan}
use Rattle.tb_recur.specs.Dues.{due, IsStep}

-- not after the last one wanted, where there is a last
-- Rule: no instance is due after the template's until. Tried by recurrences.
abbrev pub is_by : ℕ → Option ℕ → Bool
is_by x None = true
is_by x (Some until) = nat_le x until

-- it is a moment, and not after the last one wanted
abbrev pub is_inside : Option ℕ → Option ℕ → Bool
is_inside until None = false
is_inside until (Some x) = is_by x until

-- it is a moment, and has come at m
abbrev pub has_come : Option ℕ → ℕ → Bool
has_come None m = false
has_come (Some x) m = nat_le x m

-- the k-th is one of the first ahead, or the due of the one that many places before it has come
abbrev pub has_begun : Plan → ℕ → ℕ → ℕ → Bool
has_begun p ahead k m = if nat_lt k ahead then true else has_come (due p.due p.step (k - ahead)) m

-- the k-th instance is wanted at m on a board that looks so many ahead
unfoldable pub wanted : Plan → ℕ → ℕ → ℕ → Bool
wanted p ahead k m = is_inside p.until (due p.due p.step k) && has_begun p ahead k m

-- the first from k on that isn't wanted, in so many steps
abbrev pub first_unwanted : Plan → ℕ → ℕ → ℕ → ℕ → ℕ
first_unwanted p ahead m k zero = k
first_unwanted p ahead m k (suc steps) = if wanted p ahead k m
    then first_unwanted p ahead m (k + 1) steps else k

-- the least that isn't wanted; the years up to 9999 have fewer days than steps are taken
unfoldable pub need : Plan → ℕ → ℕ → ℕ
need p ahead m = first_unwanted p ahead m 0 2932898

-- what need is: it isn't wanted, and all before it are
pub record IsNeed (p : Plan) (ahead m n : ℕ) : Type 0 where
  pub before : (k : ℕ) → suc k ≤ n → wanted p ahead k m ≡ true
  pub at : wanted p ahead n m ≡ false

abbrev pub NeedIsLeast : Type 0
NeedIsLeast = (p : Plan) (ahead m : ℕ) → IsStep p.step → IsNeed p ahead m (need p ahead m)
