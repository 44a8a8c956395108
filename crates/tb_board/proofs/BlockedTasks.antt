-- Lists of answers for the tasks of a board.
use Rattle.std.proofs.Common.{◌≡◌, inl, inr, ℕ, zero, suc, ◌+◌, ◌<◌, ◌≤◌, ◌==◌, Bool, true, false, true≢false, not, ◌&&◌, List, [], ◌∷◌, length, get_or, map, refl, sym, ◌∙◌, ap, arith}
use Rattle.std.specs.List.{list_any, range_with_len}
use Rattle.std.proofs.lemmas.Bool.{cases_Bool, cases_eq, eqb-false, ne_eqb}
use Rattle.tb_graph.specs.Blocked.{AreBlocking, IsBlocking}
use Rattle.tb_graph.specs.Marks.{AreMarks, is_marked}
use Rattle.tb_graph.specs.Walk.{Graph}
use Rattle.tb_graph.proofs.Leading.{and_both, and_parts, in_is, is_in}
use Rattle.tb_board.specs.Blocked.{has_link, is_blocked_by, is_blocking}

listed_from : (a : ℕ) (marks : List Bool) (test : ℕ → Bool) → ((v : ℕ) → v < length marks → is_marked marks v ≡ test (a + v)) → marks ≡ map test (range_with_len a (length marks))
listed_from a [] test h = refl
listed_from a (m ∷ ms) test h =
    let none : a + 0 ≡ a = omega arith in
    let first : m ≡ test a = h 0 (omega arith) ∙ ap test none in
    let rest = listed_from (a + 1) ms test (λ v within.
    let next : a + suc v ≡ a + 1 + v = omega arith in h (suc v) (omega (arith, within)) ∙ ap test next) in
    ap (λ x. x ∷ ms) first ∙ ap (λ xs. test a ∷ xs) rest

-- marks of so many nodes, in their order
pub listed : (n : ℕ) (test : ℕ → Bool) (marks : List Bool) → AreMarks n test marks → marks ≡ map test (range_with_len 0 n)
listed n test marks are =
    listed_from 0 marks test (λ v within. let none : v ≡ 0 + v = omega arith in are.each v (omega (arith, within, are.size)) ∙ ap test none)
    ∙ ap (λ k. map test (range_with_len 0 k)) are.size

record IsHit (test : ℕ → Bool) (a n : ℕ) : Type 0 where
  number : ℕ
  within : number < a + n
  passes : test number ≡ true

hit : (test : ℕ → Bool) (a n : ℕ) → list_any test (range_with_len a n) ≡ true → IsHit test a n
hit test a zero h = absurd (true≢false (sym h))
hit test a (suc n) h =
    elim (cases_Bool (test a)) [
      | inl here ↦ record { number = a; within = omega arith; passes = here }
      | inr other ↦
          let later : list_any test (range_with_len (a + 1) n) ≡ true = rw other at h in
          let rest = hit test (a + 1) n later in
          record { number = rest.number; within = omega (arith, rest.within); passes = rest.passes }
    ]

pub any_hit : (test : ℕ → Bool) (a n v : ℕ) → a ≤ v → v < a + n → test v ≡ true → list_any test (range_with_len a n) ≡ true
any_hit test a zero v from to h = absurd (omega arith)
any_hit test a (suc n) v from to h =
    elim (cases_Bool (test a)) [
      | inl here ↦ rw here refl
      | inr other ↦ elim (cases_eq a v) [
        | inl same ↦ absurd (true≢false (sym h ∙ ap test (sym same) ∙ other))
        | inr apart ↦ rw other (any_hit test (a + 1) n v (omega (arith, from, apart)) (omega (arith, to)) h)
      ]
    ]

another : (v w : ℕ) → not (v == w) ≡ true → v ≡ w → ⊥
another v w h = eqb-false v w (shut (v == w) h)
  where
    shut : (p : Bool) → not p ≡ true → p ≡ false
    shut true h = absurd (true≢false (sym h))
    shut false h = refl

blocking_if : (g : Graph) (are_open : List Bool) (w : ℕ) → is_blocking g are_open w ≡ true → IsBlocking g are_open w
blocking_if g are_open w h =
    let parts = and_parts (is_marked are_open w) _ h in
    let found = hit (is_blocked_by g are_open w) 0 (length g) parts.1 in
    let v = found.number in
    let apart = and_parts (not (v == w)) (is_marked are_open v && has_link g v w) found.passes in
    let both = and_parts (is_marked are_open v) (has_link g v w) apart.1 in
    (parts.0, v, another v w apart.0, omega (arith, found.within), both.0, is_in w (get_or g v []) both.1)

if_blocking : (g : Graph) (are_open : List Bool) (w : ℕ) → IsBlocking g are_open w → is_blocking g are_open w ≡ true
if_blocking g are_open w (own, v, apart, within, other, link) =
    let differs : not (v == w) ≡ true = ap not (ne_eqb v w apart) in
    let blocks = and_both (is_marked are_open v) (has_link g v w) other (in_is w (get_or g v []) link) in
    and_both (is_marked are_open w) _ own
    (any_hit (is_blocked_by g are_open w) 0 (length g) v (omega arith) (omega (arith, within)) (and_both (not (v == w)) (is_marked are_open v && has_link g v w) differs blocks))

pub blocking_marks : (g : Graph) (are_open marks : List Bool) → AreBlocking g are_open marks → AreMarks (length g) (is_blocking g are_open) marks
blocking_marks g are_open marks are =
    record {
      size = are.size;
      each = λ w within. same (is_marked marks w) (is_blocking g are_open w) (λ h. if_blocking g are_open w ((are.each w).0 h)) (λ h. (are.each w).1 (blocking_if g are_open w h));
    }
  where
    same : (p q : Bool) → (p ≡ true → q ≡ true) → (q ≡ true → p ≡ true) → p ≡ q
    same true q to back = sym (to refl)
    same false true to back = back refl
    same false false to back = refl
