-- What earlier and later boards have in common, where one comes out of the other.
use Rattle.std.proofs.Common.{◌≡◌, ℕ, ◌<◌, ◌≤◌, nat_lt, Bool, true, false, not, ◌||◌, cond, List, Some, None, flat_map, get_or, length, refl, sym, ◌∙◌, ap, arith, inl, inr}
use Rattle.std.proofs.lemmas.Bool.{cases_Bool, le-ltb}
use Rattle.std.proofs.lemmas.List.{get_or_default}
use Rattle.tb_task.specs.declared.task.Task.{Task}
use Rattle.tb_board.specs.declared.board.Board.{Board}
use Rattle.tb_board.specs.declared.change.Change.{Change}
use Rattle.tb_board.specs.Good.{IsGood}
use Rattle.tb_board.specs.Statuses.{is_template}
use Rattle.tb_board.specs.InstancePlaces.{is_id}
use Rattle.tb_board.specs.Templates.{mask}
use Rattle.tb_board.specs.Extends.{ExtendsBoard, ExtendsTask}
use Rattle.tb_rows.specs.Rows.{instance_rows_of, mask_cell}
use Rattle.tb_rows.specs.Steps.{changed_templates, is_among, is_changed, put_place}
use Rattle.tb_rows.proofs.BoardRows.{AreKept}
use Rattle.tb_rows.proofs.Evolving.{replay}
use Rattle.tb_rows.proofs.Masking.{changed_other, HasSameInstances, IsSameOrOther, mask_stays, no_place}
use Rattle.tb_rows.proofs.Staying.{all_at, front_at, front_length, instance_stays, links_stay, matches_from, place_at, tasks_stay}

-- the later board comes out of the earlier one, and both are good
pub record IsLater (a b : Board) (cs : List Change) : Type 0 where
  pub good_before : IsGood a
  pub good_after : IsGood b
  pub extends : ExtendsBoard a b
  pub made : b ≡ replay b.number cs a

module _ (a b : Board) (cs : List Change) (later : IsLater a b cs) where
  same_task : (j : ℕ) (s t : Task) → j < length a.tasks → s ≡ get_or a.tasks j s → t ≡ get_or b.tasks j t → is_among (flat_map (put_place b.number) cs) j ≡ false → t ≡ s
  same_task j s t within at_s at_t out =
      at_t ∙ ap (λ (x : Board). get_or x.tasks j t) later.made ∙ tasks_stay b.number cs a j t within out ∙ get_or_default a.tasks j t s within ∙ sym at_s

  is_later_change : (j : ℕ) → length a.tasks ≤ j → is_changed (length a.tasks) (flat_map (put_place b.number) cs) j ≡ true
  is_later_change j past = rw (le-ltb j (length a.tasks) past) refl

  is_put_change : (j : ℕ) → is_among (flat_map (put_place b.number) cs) j ≡ true → is_changed (length a.tasks) (flat_map (put_place b.number) cs) j ≡ true
  is_put_change j here = rw here (or_true (not (nat_lt j (length a.tasks))))
    where
      or_true : (q : Bool) → (q || true) ≡ true
      or_true true = refl
      or_true false = refl

  same_instances : (i : ℕ) (t : Task) → i < length b.tasks → t ≡ get_or b.tasks i t
      → is_among (changed_templates b (length a.tasks) (flat_map (put_place b.number) cs) cs) i ≡ false → HasSameInstances t.id 0 a.tasks b.tasks
  same_instances i t within at out =
      let place = place_at b.tasks i t later.good_after.distinct within at in
      let long = front_length ExtendsTask a.tasks b.tasks later.extends.tasks in
      matches_from _ _ 0 a.tasks b.tasks long
      (λ j p s u e before at_s at_u.
      elim (cases_Bool (is_among (flat_map (put_place b.number) cs) j)) as (λ _. IsSameOrOther t.id s u) [
        | inl here ↦
            let other = changed_other b (length a.tasks) (flat_map (put_place b.number) cs) cs t.id i place out j u (omega (arith, before, long)) at_u (is_put_change j here) in
            let ext = front_at ExtendsTask a.tasks b.tasks j s u later.extends.tasks before at_s at_u in
            inr (no_place t.id u other, no_place t.id s (ap (is_id t.id) (sym ext.parent) ∙ other))
        | inr apart ↦ inl (same_task j s u before at_s at_u apart)
      ])
      (λ j p u e past inside at_u. no_place t.id u (changed_other b (length a.tasks) (flat_map (put_place b.number) cs) cs t.id i place out j u inside at_u (is_later_change j past)))

  same_mask : (j : ℕ) (s t : Task) → j < length a.tasks → s ≡ get_or a.tasks j s → t ≡ get_or b.tasks j t
      → is_among (flat_map (put_place b.number) cs) j ≡ false → is_among (changed_templates b (length a.tasks) (flat_map (put_place b.number) cs) cs) j ≡ false → mask_cell b t ≡ mask_cell a s
  same_mask j s t within at_s at_t not_put out =
      let long = front_length ExtendsTask a.tasks b.tasks later.extends.tasks in
      let inside : j < length b.tasks = omega (arith, within, long) in
      let same = same_task j s t within at_s at_t not_put in
      let masks : mask b t.id ≡ mask a t.id =
      mask_stays a b (length a.tasks) (flat_map (put_place b.number) cs) cs t.id j later.made (place_at b.tasks j t later.good_after.distinct inside at_t) out (same_instances j t inside at_t out) in
      ap (λ m. cond (is_template t) (Some m) None) masks ∙ ap (mask_cell a) same

  pub are_kept : AreKept a b (flat_map (put_place b.number) cs) (changed_templates b (length a.tasks) (flat_map (put_place b.number) cs) cs)
  are_kept =
      matches_from _ _ 0 a.tasks b.tasks (front_length ExtendsTask a.tasks b.tasks later.extends.tasks)
      (λ j p s t e within at_s at_t.
      let here : p ≡ j = omega (arith, e) in
      let ext = front_at ExtendsTask a.tasks b.tasks j s t later.extends.tasks within at_s at_t in
      let linked = all_at _ a.tasks j s later.good_before.linked within at_s in
      let parent = all_at _ a.tasks j s later.good_before.parents within at_s in (
        omega (arith, within, here),
        record {
          id = ext.id;
          same = λ out. same_task j s t within at_s at_t (ap (is_among (flat_map (put_place b.number) cs)) (sym here) ∙ out);
          mask = λ not_put out. same_mask j s t within at_s at_t (ap (is_among (flat_map (put_place b.number) cs)) (sym here) ∙ not_put)
              (ap (is_among (changed_templates b (length a.tasks) (flat_map (put_place b.number) cs) cs)) (sym here) ∙ out);
          links = λ q. links_stay a b q s.depends later.extends.number later.extends.tasks linked;
          instance = λ q. ap (λ o. instance_rows_of b q o t.imask) ext.parent ∙ ap (instance_rows_of b q s.parent) ext.imask ∙ instance_stays a b q s.parent s.imask later.extends.number later.extends.tasks parent;
        },
      ))
      (λ j p t e past within at_t. omega (arith, e, past))
