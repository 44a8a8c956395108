-- The order of keys is total, and only equal keys tie.
use Rattle.std.proofs.Common.{◌≡◌, ◌<◌, ℕ, arith, refl, subst, ap, ◌∙◌, Ordering, Less, Equal, Greater}
use Rattle.std.specs.Cmp.{IsTotalOrder, nat_cmp_total, then_total, on_total, ranks}
use Rattle.std.specs.Ordering.{nat_cmp, ordering_then, MatchOrdering}
use Rattle.tb_finding.specs.Order.{Key, key_order}
use Rattle.tb_report.specs.Rank.{Rank, rank_order}
use Rattle.tb_report.proofs.RankOrder.{rank_exact}
use Rattle.tb_report.proofs.Sorting.{IsExactOrder}

key_total : IsTotalOrder key_order
key_total = then_total (on_total (λ (k : Key). k.0) nat_cmp_total) (on_total (λ (k : Key). k.1) rank_exact.total)

both_tie : (o p : Ordering) → ordering_then o p ≡ Equal → (o ≡ Equal) × (p ≡ Equal)
both_tie Less p e = absurd (grind arith)
both_tie Equal p e = (refl, e)
both_tie Greater p e = absurd (grind arith)

made : ℕ → Rank → Key
made n r = (n, r)

equal_keys : (x y : Key) → x.0 ≡ y.0 → x.1 ≡ y.1 → x ≡ y
unfolding made
equal_keys x y e d = ap (λ n. made n x.1) e ∙ ap (λ r. made y.0 r) d

equal_if_tied : (x y : Key) → key_order x y ≡ Equal → x ≡ y
equal_if_tied x y e =
    let tied = both_tie (nat_cmp x.0 y.0) (rank_order x.1 y.1) e in
    equal_keys x y (subst (λ o. MatchOrdering o (x.0 < y.0) (x.0 ≡ y.0) (y.0 < x.0)) tied.0 (ranks x.0 y.0))
    (rank_exact.exact x.1 y.1 tied.1)

pub key_exact : IsExactOrder key_order
key_exact = record { total = key_total; exact = equal_if_tied }
