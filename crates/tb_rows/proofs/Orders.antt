-- Roles and gone places of a good world stand in the order of their rows.
use Rattle.std.proofs.Common.{◌≡◌, ℕ, ◌+◌, ◌<◌, List, [], ◌∷◌, ◌⊎◌, map, Ordering, Less, Equal, Greater, sym, ap, ◌∙◌, arith, inl, inr, true}
use Rattle.std.specs.List.{AllByRecursion, list_any}
use Rattle.std.specs.List.Sorted.{IsStrictlySortedBy}
use Rattle.std.specs.Ordering.{MatchOrdering, nat_cmp, ordering_then}
use Rattle.std.specs.Cmp.{ranks}
use Rattle.std.proofs.lemmas.Option.{cond_some}
use Rattle.sqlite_trees.specs.Tree.{IsAscending}
use Rattle.sqlite_keyed.proofs.ListLemmas.{all_weaker, all_both, all_map}
use Rattle.tb_task.specs.declared.task.Task.{Task}
use Rattle.tb_board.specs.Tasks.{ids}
use Rattle.tb_board.specs.Good.{IsGood}
use Rattle.tb_board.specs.Instances.{is_template_with, by_template, place_among, IsGoneOn}
use Rattle.tb_board.specs.Roles.{role_order}
use Rattle.tb_board.specs.declared.board.Board.{Board}
use Rattle.tb_board.specs.declared.gone.Gone.{Gone}
use Rattle.tb_board.specs.declared.world.RoleOn.{RoleOn}
use Rattle.tb_board.specs.declared.world.World.{World}
use Rattle.tb_core.specs.GoodWorld.{IsGoodWorld}
use Rattle.tb_sql.specs.Changes.{IsGoneBefore}
use Rattle.tb_rows.specs.Rows.{place_of, gone_row, board_gone}
use Rattle.tb_rows.proofs.ReadGone.{placed}
use Rattle.tb_rows.proofs.RoleRows.{RoleRises}

then_less : (a b c d : ℕ) → ordering_then (nat_cmp a b) (nat_cmp c d) ≡ Less → (a < b) ⊎ ((a ≡ b) × (c < d))
then_less a b c d h = go (nat_cmp a b) (nat_cmp c d) (ranks a b) (ranks c d) h
  where
    go : (o p : Ordering) → MatchOrdering o (a < b) (a ≡ b) (b < a) → MatchOrdering p (c < d) (c ≡ d) (d < c) → ordering_then o p ≡ Less → (a < b) ⊎ ((a ≡ b) × (c < d))
    go Less p first second h = inl first
    go Equal Less first second h = inr (first, second)
    go Equal Equal first second h = absurd (cc)
    go Equal Greater first second h = absurd (cc)
    go Greater p first second h = absurd (cc)

-- ---- roles

roles_in_order : (rs : List RoleOn) → IsStrictlySortedBy role_order rs → IsAscending RoleRises rs
unfolding IsStrictlySortedBy
roles_in_order [] h = tt
roles_in_order (r ∷ rs) h =
    (all_weaker (λ s. role_order r s ≡ Less) (RoleRises r) (λ s less. then_less r.board s.board r.person s.person less) rs h.0, roles_in_order rs h.1)

-- ---- gone places

abbrev pub GoneRise : Board → Type 0
GoneRise b = IsAscending IsGoneBefore (board_gone b)

-- a template's place is counted from 1 in rows
place_is : (ts : List Task) (id : ℕ) → list_any (is_template_with id) ts ≡ true → place_of ts id ≡ place_among (ids ts) id + 1
place_is ts id h =
    let (k, is) = placed ts id h in
    let there : place_among (ids ts) id ≡ k = (cond_some _ _ k is.found).1 in
    rw is.found (ap (λ j. j + 1) (sym there))

gone_before : (b : Board) (g h : Gone) → IsGoneOn b g → IsGoneOn b h → by_template (ids b.tasks) g h ≡ Less → IsGoneBefore (gone_row b g) (gone_row b h)
gone_before b g h on_g on_h less =
    let at_g = place_is b.tasks g.template on_g in
    let at_h = place_is b.tasks h.template on_h in
    elim (then_less (place_among (ids b.tasks) g.template) (place_among (ids b.tasks) h.template) g.place h.place less) [
      | inl below ↦ inl (omega (arith, at_g, at_h))
      | inr same ↦ inr (at_g ∙ ap (λ j. j + 1) same.0 ∙ sym at_h, same.1)
    ]

gone_in_order : (b : Board) (gs : List Gone) → AllByRecursion (IsGoneOn b) gs → IsStrictlySortedBy (by_template (ids b.tasks)) gs → IsAscending IsGoneBefore (map (gone_row b) gs)
unfolding IsStrictlySortedBy
gone_in_order b [] on h = tt
gone_in_order b (g ∷ gs) on h = (
  all_map (IsGoneBefore (gone_row b g)) (gone_row b) gs
      (all_both (IsGoneOn b) (λ k. by_template (ids b.tasks) g k ≡ Less) (λ k. IsGoneBefore (gone_row b g) (gone_row b k)) (λ k on_k less. gone_before b g k on.0 on_k less) gs on.1 h.0),
  gone_in_order b gs on.1 h.1,
)

-- ---- a world

pub record IsOrdered (w : World) : Type 0 where
  pub roles : IsAscending RoleRises w.roles
  pub gone : AllByRecursion GoneRise w.boards

pub in_order : (w : World) → IsGoodWorld w → IsOrdered w
in_order w good = record {
  roles = roles_in_order w.roles good.ordered;
  gone = all_weaker IsGood GoneRise (λ b is. gone_in_order b b.gone is.gone is.gone_order) w.boards good.good;
}
