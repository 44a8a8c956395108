-- Gone places stay in order while new tasks go to a board.
use Rattle.std.proofs.Common.{◌≡◌, ℕ, ◌+◌, ◌<◌, ◌==◌, nat_eq, Bool, true, false, true≢false, List, [], ◌∷◌, ◌++◌, Option, Some, None, if◌then◌else◌, Ordering, Less, not, sym, ◌∙◌, subst, arith, append_assoc, inl, inr}
use Rattle.std.specs.Cmp.{nat_eq_equiv}
use Rattle.std.specs.List.{AllByRecursion, IsDistinct}
use Rattle.std.specs.List.Sorted.{IsStrictlySortedBy}
use Rattle.std.proofs.lemmas.Bool.{cases_Bool}
use Rattle.std.proofs.lemmas.List.Folds.{list_any-append}
use Rattle.std.proofs.lemmas.List.Kept.{IsStrictlySortedBy-filter}
use Rattle.tb_task.specs.declared.incoming.Incoming.{Incoming}
use Rattle.tb_board.specs.declared.board.Board.{Board}
use Rattle.tb_board.specs.declared.gone.Gone.{Gone}
use Rattle.tb_board.specs.Tasks.{ids}
use Rattle.tb_board.specs.Instances.{by_template, IsGoneOn, place_among}
use Rattle.tb_board.specs.Templates.{is_gone_at}
use Rattle.tb_board.proofs.GoneOrder.{AreAmong, gone_among, is_among, order-more, order-none, place_less}
use Rattle.tb_board.proofs.Pairs.{first_less, second_less}
use Rattle.tb_import.specs.Entering.{left_by, mask_in, mask_places, marked_from, takes, without_taken}
use Rattle.tb_import.proofs.Moving.{apart_from, or_left, or_right}
use Rattle.tb_import.proofs.Numbering.{own_ids}
use Rattle.tb_import.proofs.Templates.{all_append, left_all}

-- two lists in order, all of the first before all of the second
sorted_append : (order : Gone → Gone → Ordering) (gs hs : List Gone) → IsStrictlySortedBy order gs → IsStrictlySortedBy order hs
    → AllByRecursion (λ g. AllByRecursion (λ h. order g h ≡ Less) hs) gs → IsStrictlySortedBy order (gs ++ hs)
unfolding IsStrictlySortedBy
sorted_append order [] hs first second between = second
sorted_append order (g ∷ gs) hs first second between = (
  all_append (λ h. order g h ≡ Less) gs hs first.0 between.0,
  sorted_append order gs hs first.1 second between.1,
)

abbrev AreApart : List ℕ → List Gone → Type 0
AreApart all gs = AllByRecursion (λ (g : Gone). is_among all g.template ≡ false) gs

one_before : (all more : List ℕ) (g : Gone) (hs : List Gone) → is_among all g.template ≡ true → AreApart all hs → AllByRecursion (λ h. by_template (all ++ more) g h ≡ Less) hs
one_before all more g [] first later = tt
one_before all more g (h ∷ hs) first later = (
  first_less (place_among (all ++ more) g.template) (place_among (all ++ more) h.template) _ (place_less g.template h.template all more first later.0),
  one_before all more g hs first later.1,
)

-- templates among the first identifiers, and other ones
all_before : (all more : List ℕ) (gs hs : List Gone) → AreAmong all gs → AreApart all hs → AllByRecursion (λ g. AllByRecursion (λ h. by_template (all ++ more) g h ≡ Less) hs) gs
all_before all more [] hs first later = tt
all_before all more (g ∷ gs) hs first later = (one_before all more g hs first.0 later, all_before all more gs hs first.1 later)

-- ---- the places of one mask

marks_after : (all : List ℕ) (id k mark n : ℕ) (marks : List ℕ) → k < n → AllByRecursion (λ h. by_template all (record { template = id; place = k; mark = mark }) h ≡ Less) (marked_from id n marks)
marks_after all id k mark n [] below = tt
marks_after all id k mark n (m ∷ ms) below = (second_less (place_among all id) k n below, marks_after all id k mark (n + 1) ms (omega (arith, below)))

marks_sorted : (all : List ℕ) (id k : ℕ) (marks : List ℕ) → IsStrictlySortedBy (by_template all) (marked_from id k marks)
unfolding IsStrictlySortedBy
marks_sorted all id k [] = tt
marks_sorted all id k (m ∷ ms) = (marks_after all id k m (k + 1) ms (omega arith), marks_sorted all id (k + 1) ms)

marks_among : (all : List ℕ) (id k : ℕ) (marks : List ℕ) → is_among all id ≡ true → AreAmong all (marked_from id k marks)
marks_among all id k [] there = tt
marks_among all id k (m ∷ ms) there = (there, marks_among all id (k + 1) ms there)

-- ---- the places of all masks

more_among : (id : ℕ) (all : List ℕ) (gs : List Gone) → AreAmong all gs → AreAmong (id ∷ all) gs
more_among id all [] h = tt
more_among id all (g ∷ gs) h = (or_right (id == g.template) (is_among all g.template) h.0, more_among id all gs h.1)

masks_among : (is : List Incoming) → AreAmong (own_ids is) (mask_places is)
masks_among [] = tt
masks_among (i ∷ is) =
    all_append (λ (g : Gone). is_among (own_ids (i ∷ is)) g.template ≡ true) (marked_from i.task.id 0 (mask_in i)) (mask_places is)
    (marks_among (own_ids (i ∷ is)) i.task.id 0 (mask_in i) (or_left (i.task.id == i.task.id) (is_among (own_ids is) i.task.id) (nat_eq_equiv.refl i.task.id)))
    (more_among i.task.id (own_ids is) (mask_places is) (masks_among is))

-- identifiers that differ from those of the first list
apart : (all own : List ℕ) (gs : List Gone) → IsDistinct nat_eq (all ++ own) → AreAmong own gs → AreApart all gs
apart all own [] distinct h = tt
apart all own (g ∷ gs) distinct h = (
  elim (cases_Bool (is_among all g.template)) [
    | inl there ↦ absurd (true≢false (sym h.0 ∙ apart_from g.template all own distinct there))
    | inr other ↦ other
  ],
  apart all own gs distinct h.1,
)

last_among : (all : List ℕ) (id : ℕ) → is_among (all ++ id ∷ []) id ≡ true
last_among all id = list_any-append (λ i. i == id) all (id ∷ []) ∙ or_right (is_among all id) (is_among (id ∷ []) id) (or_left (id == id) false (nat_eq_equiv.refl id))

masks_sorted : (all : List ℕ) (is : List Incoming) → IsDistinct nat_eq (all ++ own_ids is) → IsStrictlySortedBy (by_template (all ++ own_ids is)) (mask_places is)
masks_sorted all [] distinct = order-none (all ++ [])
masks_sorted all (i ∷ is) distinct =
    let first = all ++ i.task.id ∷ [] in
    let joined : first ++ own_ids is ≡ all ++ i.task.id ∷ own_ids is = append_assoc all (i.task.id ∷ []) (own_ids is) in
    let distinct' : IsDistinct nat_eq (first ++ own_ids is) = subst (IsDistinct nat_eq) (sym joined) distinct in
    let own = marked_from i.task.id 0 (mask_in i) in
    let between = all_before first (own_ids is) own (mask_places is) (marks_among first i.task.id 0 (mask_in i) (last_among all i.task.id))
    (apart first (own_ids is) (mask_places is) distinct' (masks_among is)) in
    subst (λ ids. IsStrictlySortedBy (by_template ids) (own ++ mask_places is)) joined
    (sorted_append (by_template (first ++ own_ids is)) own (mask_places is) (marks_sorted (first ++ own_ids is) i.task.id 0 (mask_in i)) (masks_sorted first is distinct') between)

-- ---- the places that tasks take

sorted_taken : (order : Gone → Gone → Ordering) (gs : List Gone) (o p : Option ℕ) (taking : Bool) → IsStrictlySortedBy order gs → IsStrictlySortedBy order (if taking then without_taken gs o p else gs)
sorted_taken order gs o p false h = h
sorted_taken order gs None p true h = h
sorted_taken order gs (Some q) None true h = h
sorted_taken order gs (Some q) (Some k) true h = IsStrictlySortedBy-filter order (λ g. not (is_gone_at q k g)) gs h

sorted_left : (order : Gone → Gone → Ordering) (b : Board) (new : List Incoming) (gs : List Gone) (is : List Incoming) → IsStrictlySortedBy order gs → IsStrictlySortedBy order (left_all b new gs is)
sorted_left order b new gs [] h = h
sorted_left order b new gs (i ∷ is) h = sorted_left order b new (left_by b new gs i) is (sorted_taken order gs i.raw_parent i.raw_imask (takes b new gs i) h)

-- the gone places of the board, and those that the new tasks leave of their masks
pub left_sorted : (b : Board) (new : List Incoming) → AllByRecursion (IsGoneOn b) b.gone → IsStrictlySortedBy (by_template (ids b.tasks)) b.gone
    → IsDistinct nat_eq (ids b.tasks ++ own_ids new) → IsStrictlySortedBy (by_template (ids b.tasks ++ own_ids new)) (left_all b new (b.gone ++ mask_places new) new)
left_sorted b new there sorted distinct =
    let all = ids b.tasks in
    let own = own_ids new in
    let among = gone_among b b.gone there in
    sorted_left (by_template (all ++ own)) b new (b.gone ++ mask_places new) new
    (sorted_append (by_template (all ++ own)) b.gone (mask_places new) (order-more all own b.gone among sorted) (masks_sorted all new distinct)
    (all_before all own b.gone (mask_places new) among (apart all own (mask_places new) distinct (masks_among new))))
