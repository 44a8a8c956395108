-- The orders of links and instances are total, and only equal rows tie.
use Rattle.std.proofs.Common.{◌≡◌, ◌<◌, ◌==◌, ◌&&◌, ℕ, refl, ap, subst, arith, Ordering, Less, Equal, Greater}
use Rattle.std.specs.Bool.{Decides}
use Rattle.std.specs.Cmp.{nat_cmp_total, then_total, on_total, ranks}
use Rattle.std.specs.Ordering.{nat_cmp, ordering_then, MatchOrdering}
use Rattle.std.proofs.lemmas.Bool.Decides.{Decides-and, Decides-eqb, Decides-like}
use Rattle.tb_sql_tables.specs.declared.rows.LinkRow.{LinkRow}
use Rattle.tb_sql_tables.specs.declared.rows.InstanceRow.{InstanceRow}
use Rattle.tb_report.proofs.Sorting.{IsExactOrder}
use Rattle.tb_rows.specs.RowOrders.{link_order, instance_order}

both_tie : (o p : Ordering) → ordering_then o p ≡ Equal → (o ≡ Equal) × (p ≡ Equal)
both_tie Less p e = absurd (grind arith)
both_tie Equal p e = (refl, e)
both_tie Greater p e = absurd (grind arith)

tied : (m n : ℕ) → nat_cmp m n ≡ Equal → m ≡ n
tied m n e = subst (λ o. MatchOrdering o (m < n) (m ≡ n) (n < m)) e (ranks m n)

equal_links : (a b : LinkRow) → a.board ≡ b.board → a.place ≡ b.place → a.target ≡ b.target → a ≡ b
equal_links a b board place target = λ i.
    let row : LinkRow = record { board = board i; place = place i; target = target i } in
    row

equal_instances : (a b : InstanceRow) → a.board ≡ b.board → a.template ≡ b.template → a.imask ≡ b.imask → a.place ≡ b.place → a ≡ b
equal_instances a b board template imask place = λ i.
    let row : InstanceRow = record { board = board i; template = template i; imask = imask i; place = place i } in
    row

tied_links : (a b : LinkRow) → link_order a b ≡ Equal → a ≡ b
tied_links a b e =
    let last = both_tie (ordering_then (nat_cmp a.board b.board) (nat_cmp a.place b.place)) (nat_cmp a.target b.target) e in
    let first = both_tie (nat_cmp a.board b.board) (nat_cmp a.place b.place) last.0 in
    equal_links a b (tied a.board b.board first.0) (tied a.place b.place first.1) (tied a.target b.target last.1)

tied_instances : (a b : InstanceRow) → instance_order a b ≡ Equal → a ≡ b
tied_instances a b e =
    let last = both_tie (ordering_then (ordering_then (nat_cmp a.board b.board) (nat_cmp a.template b.template)) (nat_cmp a.imask b.imask)) (nat_cmp a.place b.place) e in
    let middle = both_tie (ordering_then (nat_cmp a.board b.board) (nat_cmp a.template b.template)) (nat_cmp a.imask b.imask) last.0 in
    let first = both_tie (nat_cmp a.board b.board) (nat_cmp a.template b.template) middle.0 in
    equal_instances a b (tied a.board b.board first.0) (tied a.template b.template first.1) (tied a.imask b.imask middle.1) (tied a.place b.place last.1)

pub links_exact : IsExactOrder link_order
links_exact = record {
  total = then_total (then_total (on_total (λ (a : LinkRow). a.board) nat_cmp_total) (on_total (λ (a : LinkRow). a.place) nat_cmp_total)) (on_total (λ (a : LinkRow). a.target) nat_cmp_total);
  exact = tied_links;
}

pub instances_exact : IsExactOrder instance_order
instances_exact = record {
  total =
      then_total
      (then_total (then_total (on_total (λ (a : InstanceRow). a.board) nat_cmp_total) (on_total (λ (a : InstanceRow). a.template) nat_cmp_total)) (on_total (λ (a : InstanceRow). a.imask) nat_cmp_total))
      (on_total (λ (a : InstanceRow). a.place) nat_cmp_total);
  exact = tied_instances;
}

-- ---- the rows' own tests

pub link_tells : (a b : LinkRow) → Decides ((a.board == b.board) && ((a.place == b.place) && (a.target == b.target))) (a ≡ b)
link_tells a b =
    Decides-like _ (λ same. equal_links a b same.0 same.1.0 same.1.1)
    (λ e. (ap (λ (r : LinkRow). r.board) e, (ap (λ (r : LinkRow). r.place) e, ap (λ (r : LinkRow). r.target) e)))
    (Decides-and _ _ (Decides-eqb a.board b.board) (Decides-and _ _ (Decides-eqb a.place b.place) (Decides-eqb a.target b.target)))

pub instance_tells : (a b : InstanceRow) → Decides ((a.board == b.board) && ((a.template == b.template) && ((a.imask == b.imask) && (a.place == b.place)))) (a ≡ b)
instance_tells a b =
    Decides-like _ (λ same. equal_instances a b same.0 same.1.0 same.1.1.0 same.1.1.1)
    (λ e. (ap (λ (r : InstanceRow). r.board) e, (ap (λ (r : InstanceRow). r.template) e, (ap (λ (r : InstanceRow). r.imask) e, ap (λ (r : InstanceRow). r.place) e))))
    (Decides-and _ _ (Decides-eqb a.board b.board) (Decides-and _ _ (Decides-eqb a.template b.template) (Decides-and _ _ (Decides-eqb a.imask b.imask) (Decides-eqb a.place b.place))))
