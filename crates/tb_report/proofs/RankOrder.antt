-- The order of ranks is total, and only equal ranks tie.
use Rattle.std.proofs.Common.{◌≡◌, ◌<◌, ◌<ℤ◌, ℕ, ℤ, arith, refl, sym, ap, subst, ◌∙◌, Ordering, Less, Equal, Greater}
use Rattle.std.specs.Cmp.{IsTotalOrder, int_cmp_total, nat_cmp_total, then_total, back_total, on_total, int_ranks, ranks}
use Rattle.std.specs.Ordering.{nat_cmp, int_cmp, ordering_then, MatchOrdering}
use Rattle.tb_report.specs.Rank.{Rank, rank_order}
use Rattle.tb_report.proofs.Sorting.{IsExactOrder}

rank_total : IsTotalOrder rank_order
rank_total = then_total (on_total (λ (r : Rank). r.0.0) (back_total int_cmp_total)) (on_total (λ (r : Rank). r.1) nat_cmp_total)

both_tie : (o p : Ordering) → ordering_then o p ≡ Equal → (o ≡ Equal) × (p ≡ Equal)
both_tie Less p e = absurd (grind arith)
both_tie Equal p e = (refl, e)
both_tie Greater p e = absurd (grind arith)

made : ℤ → ℕ → Rank
made z n = (record { 0 = z }, n)

equal_ranks : (x y : Rank) → x.0.0 ≡ y.0.0 → x.1 ≡ y.1 → x ≡ y
unfolding made
equal_ranks x y e d = ap (λ z. made z x.1) e ∙ ap (λ n. made y.0.0 n) d

equal_if_tied : (x y : Rank) → rank_order x y ≡ Equal → x ≡ y
equal_if_tied x y e =
    let tied = both_tie (int_cmp y.0.0 x.0.0) (nat_cmp x.1 y.1) e in
    equal_ranks x y (sym (subst (λ o. MatchOrdering o (y.0.0 <ℤ x.0.0) (y.0.0 ≡ x.0.0) (x.0.0 <ℤ y.0.0)) tied.0 (int_ranks y.0.0 x.0.0)))
    (subst (λ o. MatchOrdering o (x.1 < y.1) (x.1 ≡ y.1) (y.1 < x.1)) tied.1 (ranks x.1 y.1))

pub rank_exact : IsExactOrder rank_order
rank_exact = record { total = rank_total; exact = equal_if_tied }
