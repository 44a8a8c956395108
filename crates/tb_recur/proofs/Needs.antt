-- The need of a plan.
use Rattle.std.proofs.Common.{◌≡◌, ℕ, zero, suc, ◌+◌, ◌-◌, ◌*◌, ◌<◌, ◌≤◌, Bool, true, false, ◌&&◌, nat_le, nat_lt, Option, Some, None, if◌then◌else◌, refl, sym, ◌∙◌, ap, subst, arith, ◌⊎◌, inl, inr, true≢false}
use Rattle.std.proofs.lemmas.Bool.{cases_Bool, leb-true, leb-false, le-leb, le-ltb, ltb-true, ltb-false}
use Rattle.tb_recur.specs.declared.plan.Plan.{Plan}
use Rattle.tb_recur.specs.Dues.{due, IsStep}
use Rattle.tb_recur.specs.Wanting.{is_by, is_inside, has_come, has_begun, wanted, first_unwanted, need, IsNeed, NeedIsLeast}
use Rattle.tb_recur.proofs.DueLemmas.{due_rises, due_early}

both : (a b : Bool) → (a && b) ≡ true → (a ≡ true) × (b ≡ true)
both true b h = (refl, h)
both false b h = absurd (true≢false (sym h))

inside : (until o : Option ℕ) → is_inside until o ≡ true → (x : ℕ) × (o ≡ Some x) × (is_by x until ≡ true)
inside until None h = absurd (true≢false (sym h))
inside until (Some x) h = (x, refl, h)

by_earlier : (until : Option ℕ) (x y : ℕ) → x ≤ y → is_by y until ≡ true → is_by x until ≡ true
by_earlier None x y le h = refl
by_earlier (Some until) x y le h = le-leb x until (omega (arith, le, leb-true y until h))

come : (o : Option ℕ) (m : ℕ) → has_come o m ≡ true → (x : ℕ) × (o ≡ Some x) × (x ≤ m)
come None m h = absurd (true≢false (sym h))
come (Some x) m h = (x, refl, leb-true x m h)

come_before : (p : Plan) (k m : ℕ) → has_come (due p.due p.step (suc k)) m ≡ true → has_come (due p.due p.step k) m ≡ true
come_before p k m h =
    let later = come (due p.due p.step (suc k)) m h in
    let here = due_rises p.due p.step k later.0 later.1 in
    rw here.1 (le-leb here.0 m (omega (arith, here.2, later.2)))

begun_before : (p : Plan) (ahead k m : ℕ) → has_begun p ahead (suc k) m ≡ true → has_begun p ahead k m ≡ true
begun_before p ahead k m h =
    elim (cases_Bool (nat_lt k ahead)) [
      | inl first ↦ rw first refl
      | inr further ↦
          let past : ahead ≤ k = ltb-false k ahead further in
          let next_past : nat_lt (suc k) ahead ≡ false = le-ltb (suc k) ahead (omega (arith, past)) in
          let place : suc k - ahead ≡ suc (k - ahead) = omega (arith, past) in
          let later : has_come (due p.due p.step (suc (k - ahead))) m ≡ true = rw (next_past, place) at h in
          rw further (come_before p (k - ahead) m later)
    ]

-- where the next is wanted, this one is
pub wanted_before : (p : Plan) (ahead k m : ℕ) → wanted p ahead (suc k) m ≡ true → wanted p ahead k m ≡ true
unfolding wanted
wanted_before p ahead k m h =
    let parts = both (is_inside p.until (due p.due p.step (suc k))) (has_begun p ahead (suc k) m) h in
    let later = inside p.until (due p.due p.step (suc k)) parts.0 in
    let here = due_rises p.due p.step k later.0 later.1 in
    let begun = begun_before p ahead k m parts.1 in
    let within : is_inside p.until (due p.due p.step k) ≡ true = rw here.1 (by_earlier p.until here.0 later.0 here.2 later.2) in
    rw (within, begun) refl

pub wanted_below : (p : Plan) (ahead k j m : ℕ) → wanted p ahead (k + j) m ≡ true → wanted p ahead k m ≡ true
wanted_below p ahead k zero m h = let same : k + 0 ≡ k = omega arith in subst (λ i. wanted p ahead i m ≡ true) same h
wanted_below p ahead k (suc j) m h =
    let next : k + suc j ≡ suc (k + j) = omega arith in
    wanted_below p ahead k j m (wanted_before p ahead (k + j) m (subst (λ i. wanted p ahead i m ≡ true) next h))

wanted_early : (p : Plan) (ahead k m : ℕ) → IsStep p.step → wanted p ahead k m ≡ true → k < 2932898
unfolding wanted
wanted_early p ahead k m some h =
    let parts = both (is_inside p.until (due p.due p.step k)) (has_begun p ahead k m) h in
    let here = inside p.until (due p.due p.step k) parts.0 in
    due_early p.due p.step k here.0 some here.1

-- the search passes wanted ones alone
passed : (p : Plan) (ahead m k steps j : ℕ) → k ≤ j → suc j ≤ first_unwanted p ahead m k steps → wanted p ahead j m ≡ true
passed p ahead m k zero j from below = absurd (omega arith)
passed p ahead m k (suc steps) j from below =
    elim (cases_Bool (wanted p ahead k m)) [
      | inl here ↦
          let later : suc j ≤ first_unwanted p ahead m (k + 1) steps = rw here at below in
          elim (cases_Bool (nat_lt k j)) [
            | inl after ↦ passed p ahead m (k + 1) steps j (omega (arith, ltb-true k j after)) later
            | inr not_after ↦ let same : k ≡ j = omega (arith, from, ltb-false k j not_after) in subst (λ i. wanted p ahead i m ≡ true) same here
          ]
      | inr other ↦ let ended : suc j ≤ k = rw other at below in absurd (omega arith)
    ]

-- it ends at one that isn't wanted, or after its last step
ended : (p : Plan) (ahead m k steps : ℕ) → (wanted p ahead (first_unwanted p ahead m k steps) m ≡ false) ⊎ (first_unwanted p ahead m k steps ≡ k + steps)
ended p ahead m k zero = inr (omega arith)
ended p ahead m k (suc steps) =
    elim (cases_Bool (wanted p ahead k m)) [
      | inl here ↦
          rw here (elim (ended p ahead m (k + 1) steps) [
            | inl unwanted ↦ inl unwanted
            | inr last ↦ inr (omega (arith, last))
          ])
      | inr other ↦ rw other (inl other)
    ]

least_is : (p : Plan) (ahead m steps : ℕ) → IsStep p.step → steps ≡ 2932898 → IsNeed p ahead m (first_unwanted p ahead m 0 steps)
least_is p ahead m steps some enough =
    record {
      before = λ k below. passed p ahead m 0 steps k (omega arith) below;
      at = elim (ended p ahead m 0 steps) [
        | inl unwanted ↦ unwanted
        | inr last ↦ elim (cases_Bool (wanted p ahead (first_unwanted p ahead m 0 steps) m)) [
          | inl wanted_there ↦ absurd (omega (arith, enough, last, wanted_early p ahead (first_unwanted p ahead m 0 steps) m some wanted_there))
          | inr unwanted ↦ unwanted
        ]
      ];
    }

pub need_least : NeedIsLeast
unfolding need
need_least p ahead m some = least_is p ahead m 2932898 some refl

-- those before the need are wanted, and no others
pub wanted_need : (p : Plan) (ahead m k : ℕ) → IsStep p.step → wanted p ahead k m ≡ nat_lt k (need p ahead m)
wanted_need p ahead m k some =
    let least = need_least p ahead m some in
    elim (cases_Bool (nat_lt k (need p ahead m))) [
      | inl below ↦ rw below (least.before k (ltb-true k (need p ahead m) below))
      | inr beyond ↦ rw beyond (elim (cases_Bool (wanted p ahead k m)) [
        | inl wanted_there ↦
            let past = ltb-false k (need p ahead m) beyond in
            let place : k ≡ need p ahead m + (k - need p ahead m) = omega (arith, past) in
            let at_need = wanted_below p ahead (need p ahead m) (k - need p ahead m) m (subst (λ i. wanted p ahead i m ≡ true) place wanted_there) in
            absurd (true≢false (sym at_need ∙ least.at))
        | inr unwanted ↦ unwanted
      ])
    ]

search_ends : (p : Plan) (ahead m k steps : ℕ) → first_unwanted p ahead m k steps ≤ k + steps
search_ends p ahead m k zero = omega arith
search_ends p ahead m k (suc steps) =
    elim (cases_Bool (wanted p ahead k m)) [
      | inl here ↦ rw here (omega (arith, search_ends p ahead m (k + 1) steps))
      | inr other ↦ rw other (omega arith)
    ]

pub need_few : (p : Plan) (ahead m : ℕ) → need p ahead m ≤ 2932898
unfolding need
need_few p ahead m = search_ends p ahead m 0 2932898

-- where one is wanted, the need is greater
pub need_more : (p : Plan) (ahead m k : ℕ) → IsStep p.step → wanted p ahead k m ≡ true → k < need p ahead m
need_more p ahead m k some h = ltb-true k (need p ahead m) (sym (wanted_need p ahead m k some) ∙ h)

-- where one isn't wanted, the need isn't greater
pub need_no_more : (p : Plan) (ahead m k : ℕ) → IsStep p.step → wanted p ahead k m ≡ false → need p ahead m ≤ k
need_no_more p ahead m k some h = ltb-false k (need p ahead m) (sym (wanted_need p ahead m k some) ∙ h)
