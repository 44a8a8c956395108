-- What the counts and the work are once the links of a node are taken off.
use Rattle.std.proofs.Common.{◌≡◌, ◌⊎◌, inl, inr, ℕ, ◌+◌, ◌-◌, ◌<◌, ◌≤◌, ◌==◌, true, List, [], ◌∷◌, ◌++◌, length, get_or, set, refl, ◌∙◌, ap, subst, arith, length-append}
use Rattle.std.specs.List.{sum}
use Rattle.std.proofs.lemmas.Bool.{cases_Bool, eqb-true, eqb-false}
use Rattle.std.proofs.lemmas.List.Sums.{sum_by-set}
use Rattle.std.proofs.Math.ListN.{length-set}
use Rattle.tb_graph.specs.Walk.{IsIn}
use Rattle.tb_graph.specs.Taking.{occurrences, counts_without, work_without}
use Rattle.tb_graph.proofs.Lists.{IsIn-left, IsIn-right, IsIn-append}
use Rattle.tb_graph.proofs.Counting.{count_at}

-- one less for each target, and those with none left are to be taken off
pub record TakesLinks (counts work ts counts' work' : List ℕ) : Type 0 where
  pub size : length counts' ≡ length counts
  pub less : (v : ℕ) → get_or counts' v 0 + occurrences v ts ≡ get_or counts v 0
  pub kept : (v : ℕ) → IsIn v work → IsIn v work'
  pub only : (v : ℕ) → IsIn v work' → IsIn v work ⊎ ((v < length counts) × (get_or counts' v 0 ≡ 0))
  pub fresh : (v : ℕ) → get_or counts' v 0 ≡ 0 → (get_or counts v 0 ≡ 0) ⊎ IsIn v work'
  pub total : sum counts' + length work' ≤ sum counts + length work

abbrev one_less : List ℕ → ℕ → List ℕ
one_less counts t = set counts t (get_or counts t 0 - 1)

-- there are counts enough for the targets after the first
pub enough_left : (counts : List ℕ) (t : ℕ) (ts : List ℕ) → t < length counts → ((v : ℕ) → occurrences v (t ∷ ts) ≤ get_or counts v 0)
    → (v : ℕ) → occurrences v ts ≤ get_or (one_less counts t) v 0
enough_left counts t ts within enough v =
    let at = count_at counts t (get_or counts t 0 - 1) v within in
    let here = enough v in
    elim (cases_Bool (t == v)) [
      | inl same ↦
          let e : get_or counts t 0 ≡ get_or counts v 0 = ap (λ n. get_or counts n 0) (eqb-true t v same) in
          omega (arith, rw same at at, rw same at here, e)
      | inr other ↦ omega (arith, rw other at at, rw other at here)
    ]

pub some_left : (counts : List ℕ) (t : ℕ) (ts : List ℕ) → ((v : ℕ) → occurrences v (t ∷ ts) ≤ get_or counts v 0) → 1 ≤ get_or counts t 0
some_left counts t ts enough = let here = enough t in omega (arith, rw (eqb-same t) at here)
  where
    eqb-same : (n : ℕ) → (n == n) ≡ true
    eqb-same n = elim (cases_Bool (n == n)) [ inl same ↦ same | inr other ↦ absurd (eqb-false n n other refl) ]

-- after the first target, whether it is added to the work or not
first_link : (counts work : List ℕ) (t : ℕ) (ts counts' work' : List ℕ) → t < length counts → 1 ≤ get_or counts t 0 → (work1 : List ℕ)
    → ((v : ℕ) → IsIn v work → IsIn v work1)
    → ((v : ℕ) → IsIn v work1 → IsIn v work ⊎ ((t ≡ v) × (get_or counts t 0 ≡ 1)))
    → (get_or counts t 0 ≡ 1 → IsIn t work1)
    → length work1 ≤ length work + 1
    → TakesLinks (one_less counts t) work1 ts counts' work' → TakesLinks counts work (t ∷ ts) counts' work'
first_link counts work t ts counts' work' within some work1 kept only added long rest =
    record {
      size = rest.size ∙ length-set counts t (get_or counts t 0 - 1);
      less = λ v. less v (rest.less v);
      kept = λ v h. rest.kept v (kept v h);
      only = λ v h. elim (rest.only v h) [
        | inl before ↦ elim (only v before) [
          | inl old ↦ inl old
          | inr here ↦ inr (subst (λ n. n < length counts) here.0 within, none_left v here.0 here.1)
        ]
        | inr new ↦ inr (let fits = new.0 in omega (arith, fits, length-set counts t (get_or counts t 0 - 1)), new.1)
      ];
      fresh = λ v h. elim (rest.fresh v h) [
        | inl before ↦ fresh v before
        | inr new ↦ inr new
      ];
      total = let drops = sum_by-set (λ n. n) counts t (get_or counts t 0 - 1) 0 within in omega (arith, rest.total, drops, long);
    }
  where
    less : (v : ℕ) → get_or counts' v 0 + occurrences v ts ≡ get_or (one_less counts t) v 0 → get_or counts' v 0 + occurrences v (t ∷ ts) ≡ get_or counts v 0
    less v h =
        let at = count_at counts t (get_or counts t 0 - 1) v within in
        elim (cases_Bool (t == v)) [
          | inl same ↦
              let e : get_or counts t 0 ≡ get_or counts v 0 = ap (λ n. get_or counts n 0) (eqb-true t v same) in
              rw same (omega (arith, h, rw same at at, e, some))
          | inr other ↦ rw other (omega (arith, h, rw other at at))
        ]

    none_left : (v : ℕ) → t ≡ v → get_or counts t 0 ≡ 1 → get_or counts' v 0 ≡ 0
    none_left v e one =
        let l = rest.less v in
        let at = count_at counts t (get_or counts t 0 - 1) v within in
        elim (cases_Bool (t == v)) [
          | inl same ↦ omega (arith, l, rw same at at, one)
          | inr other ↦ absurd (eqb-false t v other e)
        ]

    fresh : (v : ℕ) → get_or (one_less counts t) v 0 ≡ 0 → (get_or counts v 0 ≡ 0) ⊎ IsIn v work'
    fresh v h =
        let at = count_at counts t (get_or counts t 0 - 1) v within in
        elim (cases_Bool (t == v)) [
          | inl same ↦ inr (rest.kept v (subst (λ n. IsIn n work1) (eqb-true t v same) (added (omega (arith, h, rw same at at, some)))))
          | inr other ↦ inl (omega (arith, h, rw other at at))
        ]

pub takes_links : (counts work ts : List ℕ) → ((t : ℕ) → IsIn t ts → t < length counts) → ((v : ℕ) → occurrences v ts ≤ get_or counts v 0)
    → TakesLinks counts work ts (counts_without counts ts) (work_without counts work ts)
takes_links counts work [] nodes enough =
    record {
      size = refl;
      less = λ v. omega arith;
      kept = λ v h. h;
      only = λ v h. inl h;
      fresh = λ v h. inl h;
      total = omega arith;
    }
takes_links counts work (t ∷ ts) nodes enough =
    let within : t < length counts = nodes t (inl refl) in
    let some = some_left counts t ts enough in
    elim (cases_Bool (get_or counts t 0 - 1 == 0)) [
      | inl none ↦
          let one : get_or counts t 0 ≡ 1 = omega (arith, eqb-true (get_or counts t 0 - 1) 0 none, some) in
          rw none (first_link counts work t ts _ _ within some (work ++ t ∷ [])
          (λ v h. IsIn-left v work (t ∷ []) h)
          (λ v h. elim (IsIn-append v work (t ∷ []) h) [ inl old ↦ inl old | inr here ↦ inr (only_one v here, one) ])
          (λ _. IsIn-right t work (t ∷ []) (inl refl))
          (omega (arith, length-append work (t ∷ [])))
          (takes_links (one_less counts t) (work ++ t ∷ []) ts (fits within) (enough_left counts t ts within enough)))
      | inr left ↦
          rw left (first_link counts work t ts _ _ within some work
          (λ v h. h)
          (λ v h. inl h)
          (λ one. absurd (eqb-false (get_or counts t 0 - 1) 0 left (omega (arith, one))))
          (omega arith)
          (takes_links (one_less counts t) work ts (fits within) (enough_left counts t ts within enough)))
    ]
  where
    fits : t < length counts → (u : ℕ) → IsIn u ts → u < length (one_less counts t)
    fits within u h = let inside = nodes u (inr h) in omega (arith, inside, length-set counts t (get_or counts t 0 - 1))

    only_one : (v : ℕ) → IsIn v (t ∷ []) → t ≡ v
    only_one v (inl e) = e
    only_one v (inr none) = elim none [ ]
