use Rattle.std.proofs.Common.{◌≡◌, ◌<◌, ◌+◌, ℕ, inl, inr, arith, subst, sym, ◌∙◌}
use Rattle.std.proofs.lemmas.Bool.{cases_lt, false≢true}
use Rattle.tb_wal.proofs.log.has_commit_of.Goals as goal

one_more : (P : ℕ → Type 0) (n : ℕ) → ((i : ℕ) → i < n → P i) → P n → (i : ℕ) → i < n + 1 → P i
one_more P n before here i below =
    elim (cases_lt i n) [
      | inl less ↦ before i less
      | inr rest ↦ let same : n ≡ i = omega (arith, below, rest) in subst P same here
    ]

pub loop-place-preserved : goal.loop-place-preserved
loop-place-preserved c =
    one_more _ c.loop-place.place c.loop-place.invariant (c.passes.ensures.0 c.if-not-passes.false, λ ends. false≢true (sym c.if-ends_commit.false ∙ c.ends_commit.ensures.1 ends))
