use Rattle.std.proofs.Common.{◌≡◌, ◌<◌, ◌↔◌, inl, inr, ℕ, ◌+◌, List, [], ◌∷◌, ◌++◌, get_or, length, arith, subst, sym}
use Rattle.std.proofs.lemmas.Bool.{cases_eq}
use Rattle.tb_graph.specs.Walk.{IsIn}
use Rattle.tb_graph.proofs.Lists.{IsIn-left, IsIn-right, IsIn-append}
use Rattle.tb_graph.proofs.acyclic.sources.Goals.{then-counts-node-eq0+in_ok-push, else-counts-node-eq0}
use Rattle.tb_graph.proofs.acyclic.sources.Goals as goal

abbrev AreSources : List ℕ → ℕ → List ℕ → Type 0
AreSources counts n work = (v : ℕ) → IsIn v work ↔ ((v < n) × (get_or counts v 0 ≡ 0))

next_source : (counts : List ℕ) (n : ℕ) (work : List ℕ) → AreSources counts n work → get_or counts n 0 ≡ 0 → AreSources counts (n + 1) (work ++ n ∷ [])
next_source counts n work all none v = (only, found)
  where
    only : IsIn v (work ++ n ∷ []) → (v < n + 1) × (get_or counts v 0 ≡ 0)
    only h = elim (IsIn-append v work (n ∷ []) h) [
      | inl old ↦ let before = (all v).0 old in (omega (arith, before.0), before.1)
      | inr here ↦ elim here [
        | inl e ↦ (omega (arith, e), subst (λ w. get_or counts w 0 ≡ 0) e none)
        | inr past ↦ absurd past
      ]
    ]

    found : (v < n + 1) × (get_or counts v 0 ≡ 0) → IsIn v (work ++ n ∷ [])
    found h = elim (cases_eq v n) [
      | inl e ↦ IsIn-right v work (n ∷ []) (inl (sym e))
      | inr other ↦ let below = h.0 in IsIn-left v work (n ∷ []) ((all v).1 (omega arith, h.1))
    ]

no_source : (counts : List ℕ) (n : ℕ) (work : List ℕ) → AreSources counts n work → (get_or counts n 0 ≡ 0 → ⊥) → AreSources counts (n + 1) work
no_source counts n work all some v = (only, found)
  where
    only : IsIn v work → (v < n + 1) × (get_or counts v 0 ≡ 0)
    only h = let before = (all v).0 h in (omega (arith, before.0), before.1)

    found : (v < n + 1) × (get_or counts v 0 ≡ 0) → IsIn v work
    found h = elim (cases_eq v n) [
      | inl e ↦ absurd (some (subst (λ w. get_or counts w 0 ≡ 0) e h.1))
      | inr other ↦ let below = h.0 in (all v).1 (omega arith, h.1)
    ]

pub loop-node-preserved : goal.loop-node-preserved
loop-node-preserved c =
    elim c.if-counts-node-eq0.branch [
      | then-counts-node-eq0+in_ok-push w ↦ rw (w.work-is, w.in_ok-push.ensures.items) (next_source c.args.counts.now c.loop-node.node c.loop-node.work.items c.loop-node.invariant w.if-counts-node-eq0.true)
      | else-counts-node-eq0 w ↦ rw w.work-is (no_source c.args.counts.now c.loop-node.node c.loop-node.work.items c.loop-node.invariant w.if-counts-node-eq0.false)
    ]

pub returns : goal.returns
returns c =
    let end : c.loop-node.node ≡ length c.args.counts.now = omega (arith, c.loop-node-test.false, c.loop-node.auto.node-end) in
    subst (λ n. AreSources c.args.counts.now n c.loop-node.work.items) end c.loop-node.invariant
