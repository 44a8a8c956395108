-- Which instances of a template are wanted where a board doesn't look ahead: the first text, which the newer one has where it looks one ahead.
use Rattle.std.specs.Prelude.{◌≡◌, ℕ, zero, suc, ◌+◌, Bool, true, ◌&&◌, if◌then◌else◌}
use Rattle.tb_recur.specs.declared.plan.Plan.{Plan}
use Rattle.tb_recur.specs.Dues.{due}
use Rattle.tb_recur.specs.Wanting.{has_come, is_inside, need, wanted}

-- there is none before the k-th, or its due has come
abbrev pub has_begun_at_once : Plan → ℕ → ℕ → Bool
has_begun_at_once p zero m = true
has_begun_at_once p (suc j) m = has_come (due p.due p.step j) m

-- the k-th instance is wanted at m
unfoldable pub wanted_at_once : Plan → ℕ → ℕ → Bool
wanted_at_once p k m = is_inside p.until (due p.due p.step k) && has_begun_at_once p k m

-- the first from k on that isn't wanted, in so many steps
abbrev pub first_unwanted_at_once : Plan → ℕ → ℕ → ℕ → ℕ
first_unwanted_at_once p m k zero = k
first_unwanted_at_once p m k (suc steps) = if wanted_at_once p k m
    then first_unwanted_at_once p m (k + 1) steps else k

-- the least that isn't wanted
unfoldable pub need_at_once : Plan → ℕ → ℕ
need_at_once p m = first_unwanted_at_once p m 0 2932898

abbrev pub OneAheadIsAtOnce : Type 0
OneAheadIsAtOnce = (p : Plan) (m : ℕ)
    → ((k : ℕ) → wanted p 1 k m ≡ wanted_at_once p k m) × (need p 1 m ≡ need_at_once p m)
