-- The order of gone places, where tasks go last on a board.
use Rattle.std.proofs.Common.{◌≡◌, ℕ, ◌+◌, ◌<◌, ◌==◌, ◌||◌, Bool, true, false, true≢false, List, [], ◌∷◌, ◌++◌, length, Less, refl, sym, ◌∙◌, ap, subst, arith, inl, inr}
use Rattle.std.specs.Cmp.{IsTotalOrder}
use Rattle.std.specs.List.{AllByRecursion, list_any}
use Rattle.std.specs.List.Sorted.{IsStrictlySortedBy}
use Rattle.std.proofs.lemmas.Bool.{cases_Bool}
use Rattle.std.proofs.lemmas.Cmp.{nat_cmp_total, on_total, then_total}
use Rattle.tb_task.specs.declared.task.Task.{Task}
use Rattle.tb_board.specs.declared.board.Board.{Board}
use Rattle.tb_board.specs.declared.gone.Gone.{Gone}
use Rattle.tb_board.specs.Tasks.{has_id, ids}
use Rattle.tb_board.specs.Instances.{by_template, is_template_with, IsGoneOn, place_among}
use Rattle.tb_board.specs.Statuses.{is_template}
use Rattle.tb_board.proofs.Fits.{and_true}
use Rattle.tb_board.proofs.Fresh.{on_ids}

-- it is one of these identifiers
abbrev pub is_among : List ℕ → ℕ → Bool
is_among all id = list_any (λ i. i == id) all

pub by_template_total : (all : List ℕ) → IsTotalOrder (by_template all)
by_template_total all = then_total (on_total (λ (g : Gone). place_among all g.template) nat_cmp_total) (on_total (λ (g : Gone). g.place) nat_cmp_total)

-- ---- places among identifiers

place_kept : (id : ℕ) (all more : List ℕ) → is_among all id ≡ true → place_among (all ++ more) id ≡ place_among all id
place_kept id [] more h = absurd (true≢false (sym h))
place_kept id (i ∷ is) more h =
    elim (cases_Bool (i == id)) [
      | inl here ↦ rw here refl
      | inr other ↦ let rest : is_among is id ≡ true = rw other at h in rw other (ap (λ n. 1 + n) (place_kept id is more rest))
    ]

place_within : (id : ℕ) (all : List ℕ) → is_among all id ≡ true → place_among all id < length all
place_within id [] h = absurd (true≢false (sym h))
place_within id (i ∷ is) h =
    elim (cases_Bool (i == id)) [
      | inl here ↦ rw here (omega arith)
      | inr other ↦ let rest : is_among is id ≡ true = rw other at h in rw other (omega (arith, place_within id is rest))
    ]

place_later : (id : ℕ) (all more : List ℕ) → is_among all id ≡ false → place_among (all ++ more) id ≡ length all + place_among more id
place_later id [] more h = omega arith
place_later id (i ∷ is) more h =
    elim (cases_Bool (i == id)) [
      | inl here ↦ let wrong : true ≡ false = rw here at h in absurd (true≢false wrong)
      | inr other ↦ let rest : is_among is id ≡ false = rw other at h in rw other (omega (arith, place_later id is more rest))
    ]

-- one of the first identifiers stands before one that isn't
pub place_less : (p q : ℕ) (all more : List ℕ) → is_among all p ≡ true → is_among all q ≡ false → place_among (all ++ more) p < place_among (all ++ more) q
place_less p q all more first later = omega (arith, place_kept p all more first, place_within p all first, place_later q all more later)

-- ---- the order of gone places

abbrev pub AreAmong : List ℕ → List Gone → Type 0
AreAmong all gs = AllByRecursion (λ (g : Gone). is_among all g.template ≡ true) gs

less_kept : (all more : List ℕ) (g h : Gone) → is_among all g.template ≡ true → is_among all h.template ≡ true → by_template all g h ≡ Less → by_template (all ++ more) g h ≡ Less
less_kept all more g h first second less = rw (place_kept g.template all more first, place_kept h.template all more second) less

all_less_kept : (all more : List ℕ) (g : Gone) (hs : List Gone) → is_among all g.template ≡ true → AreAmong all hs → AllByRecursion (λ h. by_template all g h ≡ Less) hs
    → AllByRecursion (λ h. by_template (all ++ more) g h ≡ Less) hs
all_less_kept all more g [] first among less = tt
all_less_kept all more g (h ∷ hs) first among less = (less_kept all more g h first among.0 less.0, all_less_kept all more g hs first among.1 less.1)

-- further tasks go last
pub order-more : (all more : List ℕ) (gs : List Gone) → AreAmong all gs → IsStrictlySortedBy (by_template all) gs → IsStrictlySortedBy (by_template (all ++ more)) gs
unfolding IsStrictlySortedBy
order-more all more [] among sorted = tt
order-more all more (g ∷ gs) among sorted = (all_less_kept all more g gs among.0 among.1 sorted.0, order-more all more gs among.1 sorted.1)

pub order-same : (b c : Board) → ids c.tasks ≡ ids b.tasks → IsStrictlySortedBy (by_template (ids b.tasks)) b.gone → IsStrictlySortedBy (by_template (ids c.tasks)) b.gone
order-same b c same sorted = subst (λ all. IsStrictlySortedBy (by_template all) b.gone) (sym same) sorted

pub order-none : (all : List ℕ) → IsStrictlySortedBy (by_template all) []
unfolding IsStrictlySortedBy
order-none all = tt

-- ---- templates are on the board

pub template_is_on : (ts : List Task) (q : ℕ) → list_any (is_template_with q) ts ≡ true → list_any (has_id q) ts ≡ true
template_is_on [] q h = absurd (true≢false (sym h))
template_is_on (t ∷ ts) q h =
    elim (cases_Bool (is_template_with q t)) [
      | inl here ↦ let own = (and_true (has_id q t) (is_template t) here).0 in rw own refl
      | inr other ↦ let later : list_any (is_template_with q) ts ≡ true = rw other at h in or_true (has_id q t) (list_any (has_id q) ts) (template_is_on ts q later)
    ]
  where
    or_true : (p r : Bool) → r ≡ true → (p || r) ≡ true
    or_true true r h = refl
    or_true false r h = h

pub gone_among : (b : Board) (gs : List Gone) → AllByRecursion (IsGoneOn b) gs → AreAmong (ids b.tasks) gs
gone_among b [] h = tt
gone_among b (g ∷ gs) h = (sym (on_ids g.template b.tasks) ∙ template_is_on b.tasks g.template h.0, gone_among b gs h.1)
