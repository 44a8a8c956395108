-- The mask of a template on the woken board is the one that is stored, with a hyphen at each place that was noted.
use Rattle.std.proofs.Common.{◌≡◌, ◌∙◌, ◌+◌, ◌==◌, ◌&&◌, ◌||◌, ◌++◌, ℕ, suc, zero, nat_eq, Bool, true, false, true≢false, cond, List, [], ◌∷◌, Option, Some, None, option_map, unwrap_or, find, map, length, refl, sym, ap, ap₂, subst, inl, inr}
use Rattle.std.specs.List.{AllByRecursion, IsDistinct, list_any, range_with_len}
use Rattle.std.proofs.lemmas.Bool.{cases_Bool, eqb-false, eqb-true, ne_eqb}
use Rattle.std.proofs.lemmas.List.Folds.{list_any-append}
use Rattle.tb_task.specs.Status.{mark_of}
use Rattle.tb_task.specs.declared.status.Status.{Status}
use Rattle.tb_task.specs.declared.status.Status.TheVariants.{Pending}
use Rattle.tb_task.specs.declared.task.Task.{Task}
use Rattle.tb_board.specs.declared.board.Board.{Board}
use Rattle.tb_board.specs.declared.gone.Gone.{Gone}
use Rattle.tb_board.specs.Board.{wake}
use Rattle.tb_board.specs.Tasks.{wakes, woken}
use Rattle.tb_board.specs.InstancePlaces.{instance_places, is_id, place_in, with_place}
use Rattle.tb_board.specs.Templates.{count, gone_places, is_gone_at, is_instance_at, mark_at, mark_here, mask, places}
use Rattle.tb_keeper.specs.Noting.{is_note, is_noted, mark_by, marks_by, note_at, note_of, notes_of}
use Rattle.tb_keeper.specs.declared.noting.Note.{Note}

map_same : {X Y : Type 0} (f g : X → Y) (xs : List X) → ((x : X) → f x ≡ g x) → map f xs ≡ map g xs
map_same f g [] same = refl
map_same f g (x ∷ xs) same = ap₂ (λ y ys. y ∷ ys) (same x) (map_same f g xs same)

and_none : (a : Bool) → ((a && false) || false) ≡ false
and_none true = refl
and_none false = refl

and_true : (a : Bool) → ((a && true) || false) ≡ a
and_true true = refl
and_true false = refl

and_false : (a b : Bool) → ((a && false) || b) ≡ b
and_false true b = refl
and_false false b = refl

or_false : (a : Bool) → (a || false) ≡ a
or_false true = refl
or_false false = refl

-- ---- places

rest_distinct : (o : Option ℕ) (ps : List ℕ) → IsDistinct nat_eq (with_place o ps) → IsDistinct nat_eq ps
unfolding IsDistinct
rest_distinct None ps apart = apart
rest_distinct (Some q) ps apart = apart.1

end_distinct : (xs ys : List ℕ) → IsDistinct nat_eq (xs ++ ys) → IsDistinct nat_eq ys
unfolding IsDistinct
end_distinct [] ys apart = apart
end_distinct (x ∷ xs) ys apart = end_distinct xs ys apart.1

module _ (id k : ℕ) where
  -- a place that comes first doesn't come again
  later_absent : (o : Option ℕ) (ps : List ℕ) → is_id k o ≡ true → IsDistinct nat_eq (with_place o ps) → AllByRecursion (λ y. nat_eq k y ≡ false) ps
  unfolding IsDistinct
  later_absent None ps here apart = absurd (true≢false (sym here))
  later_absent (Some q) ps here apart = subst (λ x. AllByRecursion (λ y. nat_eq x y ≡ false) ps) (eqb-true q k here) apart.0

  absent_one : (o : Option ℕ) (ps : List ℕ) → AllByRecursion (λ y. nat_eq k y ≡ false) (with_place o ps) → (is_id k o ≡ false) × AllByRecursion (λ y. nat_eq k y ≡ false) ps
  absent_one None ps all = (refl, all)
  absent_one (Some q) ps all = (ne_eqb q k (λ is. eqb-false k q all.0 (sym is)), all.1)

  -- ---- what is noted

  one_at : (a : Bool) (q : ℕ) → ((a && (q == k)) || false) ≡ is_id k (cond a (Some q) None)
  one_at true q = or_false (q == k)
  one_at false q = refl

  none_at : (a : Bool) → false ≡ is_id k (cond a None None)
  none_at true = refl
  none_at false = refl

  at_note : (parent imask : Option ℕ) → list_any (is_note id k) (note_at parent imask) ≡ is_id k (cond (is_id id parent) imask None)
  at_note None imask = refl
  at_note (Some p) None = none_at (p == id)
  at_note (Some p) (Some q) = one_at (p == id) q

  module _ (m : ℕ) where
    note_if : (b : Bool) (parent imask : Option ℕ) → list_any (is_note id k) (cond b (note_at parent imask) []) ≡ (b && is_id k (cond (is_id id parent) imask None))
    note_if true parent imask = at_note parent imask
    note_if false parent imask = refl

    noted_more : (t : Task) (ts : List Task) → is_noted (notes_of m (t ∷ ts)) id k ≡ ((wakes m t && is_instance_at id k t) || is_noted (notes_of m ts) id k)
    noted_more t ts = list_any-append (is_note id k) (note_of m t) (notes_of m ts) ∙ ap (λ b. b || is_noted (notes_of m ts) id k) (note_if (wakes m t) t.parent t.imask)

    none_noted : (ts : List Task) → AllByRecursion (λ y. nat_eq k y ≡ false) (instance_places id ts) → is_noted (notes_of m ts) id k ≡ false
    none_noted [] all = refl
    none_noted (t ∷ ts) all =
        let both = absent_one (place_in id t) (instance_places id ts) all in
        noted_more t ts ∙ ap₂ (λ b c. (wakes m t && b) || c) both.0 (none_noted ts both.1) ∙ and_none (wakes m t)

    abbrev has_woken : Option Task → Bool
    has_woken None = false
    has_woken (Some t) = wakes m t

    -- a place is noted where its first instance waited
    noted_is : (ts : List Task) → IsDistinct nat_eq (instance_places id ts) → is_noted (notes_of m ts) id k ≡ has_woken (find (is_instance_at id k) ts)
    noted_is [] apart = refl
    noted_is (t ∷ ts) apart = elim (cases_Bool (is_instance_at id k t)) [
      | inl here ↦
          noted_more t ts
          ∙ ap₂ (λ b c. (wakes m t && b) || c) here (none_noted ts (later_absent (place_in id t) (instance_places id ts) here apart))
          ∙ and_true (wakes m t)
          ∙ sym (ap (λ b. has_woken (cond b (Some t) (find (is_instance_at id k) ts))) here)
      | inr other ↦
          noted_more t ts
          ∙ ap (λ b. (wakes m t && b) || is_noted (notes_of m ts) id k) other
          ∙ and_false (wakes m t) (is_noted (notes_of m ts) id k)
          ∙ noted_is ts (rest_distinct (place_in id t) (instance_places id ts) apart)
          ∙ sym (ap (λ b. has_woken (cond b (Some t) (find (is_instance_at id k) ts))) other)
    ]

    -- ---- the mark of a place

    found_by : (b : Bool) (t : Task) (o p : Option Task) → p ≡ option_map (woken m) o → cond b (Some (woken m t)) p ≡ option_map (woken m) (cond b (Some t) o)
    found_by true t o p is = refl
    found_by false t o p is = is

    found_woken : (ts : List Task) → find (is_instance_at id k) (map (woken m) ts) ≡ option_map (woken m) (find (is_instance_at id k) ts)
    found_woken [] = refl
    found_woken (t ∷ ts) = found_by (is_instance_at id k t) t (find (is_instance_at id k) ts) (find (is_instance_at id k) (map (woken m) ts)) (found_woken ts)

    by_status : (b : Bool) (s : Status) → unwrap_or (mark_of (cond b Pending s)) 63 ≡ cond b 45 (unwrap_or (mark_of s) 63)
    by_status true s = refl
    by_status false s = refl

    mark_woken : (o : Option Task) (g : Option Gone) → mark_here (option_map (woken m) o) g ≡ cond (has_woken o) 45 (mark_here o g)
    mark_woken None g = refl
    mark_woken (Some t) g = by_status (wakes m t) t.status

    mark_is : (b : Board) → IsDistinct nat_eq (places b id) → mark_at (wake b m) id k ≡ mark_by (notes_of m b.tasks) id k (mark_at b id k)
    mark_is b apart =
        let gone = find (is_gone_at id k) b.gone in
        let here = find (is_instance_at id k) b.tasks in
        let own = end_distinct (gone_places id b.gone) (instance_places id b.tasks) apart in
        ap (λ o. mark_here o gone) (found_woken b.tasks)
        ∙ mark_woken here gone
        ∙ ap (λ w. cond w 45 (mark_here here gone)) (sym (noted_is b.tasks own))

-- ---- the whole mask

marks_in : (f : ℕ → ℕ) (notes : List Note) (id n number : ℕ) → marks_by notes id n (map f (range_with_len n number)) ≡ map (λ k. mark_by notes id k (f k)) (range_with_len n number)
marks_in f notes id n zero = refl
marks_in f notes id n (suc number) = ap (λ l. mark_by notes id n (f n) ∷ l) (marks_in f notes id (n + 1) number)

places_stay : (id m : ℕ) (ts : List Task) → instance_places id (map (woken m) ts) ≡ instance_places id ts
places_stay id m [] = refl
places_stay id m (t ∷ ts) = ap (with_place (place_in id t)) (places_stay id m ts)

count_stays : (id m : ℕ) (b : Board) → count (wake b m) id ≡ count b id
count_stays id m b = ap (λ ps. length (gone_places id b.gone ++ ps)) (places_stay id m b.tasks)

pub woken_mask : (id m : ℕ) (b : Board) → IsDistinct nat_eq (places b id) → mask (wake b m) id ≡ marks_by (notes_of m b.tasks) id 0 (mask b id)
woken_mask id m b apart =
    ap (λ n. map (mark_at (wake b m) id) (range_with_len 0 n)) (count_stays id m b)
    ∙ map_same (mark_at (wake b m) id) (λ k. mark_by (notes_of m b.tasks) id k (mark_at b id k)) (range_with_len 0 (count b id)) (λ k. mark_is id k m b apart)
    ∙ sym (marks_in (mark_at b id) (notes_of m b.tasks) id 0 (count b id))
