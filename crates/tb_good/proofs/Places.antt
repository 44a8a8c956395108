-- Places of identifiers, as a map has them.
use Rattle.std.proofs.Common.{◌≡◌, ℕ, ◌≤◌, ◌==◌, nat_lt, Bool, cond, List, [], ◌∷◌, Option, Some, None, is_some, length, MatchOption, position, refl, sym, ◌∙◌, ap, ap₂, arith, inl, inr, not, ◌||◌, BTreeMap, is_lt, nat_cmp, unwrap_or}
use Rattle.std.specs.List.{list_any}
use Rattle.std.specs.Ordering.{ordering_then}
use Rattle.std.proofs.lemmas.Bool.{cases_Bool, ltb-false}
use Rattle.std.proofs.lemmas.List.{length-map}
use Rattle.tb_task.specs.declared.task.Task.{Task}
use Rattle.tb_board.specs.declared.board.Board.{Board}
use Rattle.tb_board.specs.declared.gone.Gone.{Gone}
use Rattle.tb_board.specs.Board.{is_on, lacks_depends}
use Rattle.tb_board.specs.Tasks.{has_id, ids, ArePlaces, place_in}
use Rattle.tb_board.specs.First.{IsFirst, IsNone}
use Rattle.tb_board.specs.Instances.{by_template, place_among}
use Rattle.tb_good.specs.Parts.{comes_before, lacks_place, place_or_end}
use Rattle.tb_board.proofs.Linking.{place_by_id}
use Rattle.tb_board.proofs.Places.{place}

is_there : {A : Type 0} (test : A → Bool) (xs : List A) (o : Option ℕ) → MatchOption o (IsNone test xs) (IsFirst test xs) → is_some o ≡ list_any test xs
is_there test xs None none = sym none.none
is_there test xs (Some k) first = sym first.stands

-- an identifier is on the board where it has a place
pub placed : (b : Board) (id : ℕ) → is_some (place_in (ids b.tasks) id) ≡ is_on b id
placed b id = ap is_some (sym (place_by_id b.tasks id)) ∙ is_there (has_id id) b.tasks (position (has_id id) b.tasks) (place (has_id id) b.tasks)

within : (id : ℕ) (all : List ℕ) → place_among all id ≤ length all
within id [] = omega arith
within id (i ∷ is) =
    elim (cases_Bool (i == id)) [
      | inl here ↦ rw here (omega arith)
      | inr other ↦ rw other (omega (arith, within id is))
    ]

at_place : (n size end : ℕ) → n ≤ size → end ≡ size → unwrap_or (cond (nat_lt n size) (Some n) None) end ≡ n
at_place n size end le is =
    elim (cases_Bool (nat_lt n size)) [
      | inl inside ↦ rw inside refl
      | inr beyond ↦ rw beyond (omega (arith, le, is, ltb-false n size beyond))
    ]

-- the place among all identifiers
pub place_is : (b : Board) (places : BTreeMap ℕ ℕ) (end id : ℕ) → ArePlaces (ids b.tasks) places → end ≡ length b.tasks → place_or_end places end id ≡ place_among (ids b.tasks) id
place_is b places end id are size =
    let all : end ≡ length (ids b.tasks) = size ∙ sym (length-map b.tasks (λ (t : Task). t.id)) in
    ap (λ o. unwrap_or o end) (are id) ∙ at_place (place_among (ids b.tasks) id) (length (ids b.tasks)) end (within id (ids b.tasks)) all

pub order_is : (b : Board) (places : BTreeMap ℕ ℕ) (end : ℕ) (g h : Gone) → ArePlaces (ids b.tasks) places → end ≡ length b.tasks
    → comes_before places end g h ≡ is_lt (by_template (ids b.tasks) g h)
order_is b places end g h are size =
    ap₂ (λ first second. is_lt (ordering_then (nat_cmp first second) (nat_cmp g.place h.place))) (place_is b places end g.template are size) (place_is b places end h.template are size)

pub lacks_same : (b : Board) (places : BTreeMap ℕ ℕ) (depends : List ℕ) → ArePlaces (ids b.tasks) places → lacks_place places depends ≡ lacks_depends b depends
lacks_same b places [] are = refl
lacks_same b places (id ∷ rest) are = ap₂ (λ there others. not there || others) (ap is_some (are id) ∙ placed b id) (lacks_same b places rest are)
