-- The index of a list of tasks, where a task comes in or changes.
use Rattle.std.proofs.Common.{◌≡◌, ◌==◌, ◌+◌, ◌<◌, ◌≤◌, ℕ, suc, zero, nat_lt, Bool, true, false, true≢false, cond, List, [], ◌∷◌, ◌++◌, length, get_or, set, Option, Some, None, MatchOption, position, refl, sym, ap, ◌∙◌, inl, inr, arith}
use Rattle.std.specs.List.{list_any, position_from}
use Rattle.std.specs.Prelude.{is_some}
use Rattle.std.specs.BTreeMap.{BTreeMap, get}
use Rattle.std.specs.Ordering.{nat_cmp, is_eq}
use Rattle.std.proofs.lemmas.Bool.{cases_Bool, eqb-true, ltb-true, ltb-false}
use Rattle.std.proofs.lemmas.Iterator.Adapters.{position_from-zero}
use Rattle.tb_task.specs.declared.task.Task.{Task}
use Rattle.tb_task.specs.TaskId.{made}
use Rattle.tb_board.specs.declared.board.Board.{Board}
use Rattle.tb_board.specs.Board.{is_on}
use Rattle.tb_board.specs.First.{IsFirst, IsNone}
use Rattle.tb_board.specs.Numbers.{free}
use Rattle.tb_board.specs.Tasks.{ArePlaces, has_id, ids, place_in}
use Rattle.tb_board.specs.TaskIndex.{IsLeastFree, IsTaken}
use Rattle.tb_board.proofs.Fresh.{free_is, on_ids}
use Rattle.tb_board.proofs.Linking.{same_number}
use Rattle.tb_board.proofs.Places.{place}

abbrev pub or_else : {A : Type 0} → Option A → Option A → Option A
or_else None o = o
or_else (Some x) o = Some x

last_from : (t : ℕ → Bool) (n : ℕ) (xs : List ℕ) (y : ℕ) → position_from t n (xs ++ y ∷ []) ≡ or_else (position_from t n xs) (cond (t y) (Some (n + length xs)) None)
last_from t n [] y = let same : n ≡ n + 0 = omega arith in ap (λ k. cond (t y) (Some k) None) same
last_from t n (x ∷ xs) y =
    elim (cases_Bool (t x)) [
      | inl here ↦ rw here refl
      | inr other ↦
          let next : n + 1 + length xs ≡ n + suc (length xs) = omega arith in
          rw other (last_from t (n + 1) xs y ∙ ap (λ k. or_else (position_from t (n + 1) xs) (cond (t y) (Some k) None)) next)
    ]

place_last : (all : List ℕ) (id q : ℕ) → place_in (all ++ id ∷ []) q ≡ or_else (place_in all q) (cond (id == q) (Some (length all)) None)
place_last all id q =
    let first : 0 + length all ≡ length all = omega arith in
    position_from-zero (λ i. i == q) (all ++ id ∷ []) ∙ last_from (λ i. i == q) 0 all id ∙ ap (λ k. or_else (position_from (λ i. i == q) 0 all) (cond (id == q) (Some k) None)) first
    ∙ ap (λ o. or_else o (cond (id == q) (Some (length all)) None)) (sym (position_from-zero (λ i. i == q) all))

or_none : {A : Type 0} (o : Option A) → or_else o None ≡ o
or_none None = refl
or_none (Some x) = refl

or_some : {A : Type 0} (o p : Option A) → is_some o ≡ true → or_else o p ≡ o
or_some None p h = absurd (true≢false (sym h))
or_some (Some x) p h = refl

-- an identifier that is taken stays taken
pub still_taken : (all : List ℕ) (id q : ℕ) → is_some (place_in all q) ≡ true → is_some (place_in (all ++ id ∷ []) q) ≡ true
still_taken all id q there = ap is_some (place_last all id q ∙ or_some (place_in all q) _ there) ∙ there

-- an identifier that is there already
pub places_again : (all : List ℕ) (places : BTreeMap ℕ ℕ) (id : ℕ) → ArePlaces all places → is_some (get nat_cmp places id) ≡ true → ArePlaces (all ++ id ∷ []) places
places_again all places id are there q = are q ∙ sym (place_last all id q ∙ same)
  where
    same : or_else (place_in all q) (cond (id == q) (Some (length all)) None) ≡ place_in all q
    same = elim (cases_Bool (id == q)) [
      | inl here ↦ or_some (place_in all q) _ (ap is_some (sym (are q)) ∙ ap (λ i. is_some (get nat_cmp places i)) (sym (eqb-true id q here)) ∙ there)
      | inr other ↦ rw other (or_none (place_in all q))
    ]

none_of : {A : Type 0} (o : Option A) → is_some o ≡ false → o ≡ None
none_of None h = refl
none_of (Some x) h = absurd (true≢false h)

-- one that is new
pub places_new : (all : List ℕ) (old new : BTreeMap ℕ ℕ) (id n : ℕ) → ArePlaces all old → n ≡ length all → is_some (get nat_cmp old id) ≡ false
    → ((q : ℕ) → get nat_cmp new q ≡ cond (is_eq (nat_cmp id q)) (Some n) (get nat_cmp old q)) → ArePlaces (all ++ id ∷ []) new
places_new all old new id n are long absent updated q =
    updated q ∙ ap (λ b. cond b (Some n) (get nat_cmp old q)) (same_number id q) ∙ ap (cond (id == q) (Some n)) (are q)
    ∙ ap (λ k. cond (id == q) (Some k) (place_in all q)) long ∙ sym (place_last all id q ∙ same)
  where
    same : or_else (place_in all q) (cond (id == q) (Some (length all)) None) ≡ cond (id == q) (Some (length all)) (place_in all q)
    same = elim (cases_Bool (id == q)) [
      | inl here ↦
          let nowhere : place_in all q ≡ None = sym (are q) ∙ ap (get nat_cmp old) (sym (eqb-true id q here)) ∙ none_of _ absent in
          rw (here, nowhere) refl
      | inr other ↦ rw other (or_none (place_in all q))
    ]

-- another task of the same identifier
pub ids_stay : (ts : List Task) (place : ℕ) (old new : Task) → new.id ≡ old.id → old ≡ get_or ts place old → ids (set ts place new) ≡ ids ts
ids_stay [] place old new same is = refl
ids_stay (x ∷ xs) zero old new same is = ap (λ i. i ∷ ids xs) (same ∙ ap (λ (t : Task). t.id) is)
ids_stay (x ∷ xs) (suc n) old new same is = ap (λ l. x.id ∷ l) (ids_stay xs n old new same is)

-- the first number that isn't taken from one on before which all are
pub least_found : (all : List ℕ) (places : BTreeMap ℕ ℕ) (board from n : ℕ) → ArePlaces all places → ((k : ℕ) → 1 ≤ k → k < from → IsTaken all board k) → 1 ≤ from → from ≤ n
    → ((k : ℕ) → from ≤ k → k < n → is_some (get nat_cmp places (made board k)) ≡ true) → is_some (get nat_cmp places (made board n)) ≡ false → IsLeastFree all board n
least_found all places board from n are before first on passed vacant =
    record {
      from = omega (arith, first, on);
      taken = λ k one below. elim (cases_Bool (nat_lt k from)) [
        | inl early ↦ before k one (ltb-true k from early)
        | inr late ↦ ap is_some (sym (are (made board k))) ∙ passed k (ltb-false k from late) below
      ];
      vacant = ap is_some (sym (are (made board n))) ∙ vacant;
    }

there : {A : Type 0} (test : A → Bool) (xs : List A) (o : Option ℕ) → MatchOption o (IsNone test xs) (IsFirst test xs) → is_some o ≡ list_any test xs
there test xs None none = sym none.none
there test xs (Some k) first = sym first.stands

-- an identifier is taken exactly where it is on the board
pub is_on-taken : (b : Board) (id : ℕ) → is_some (place_in (ids b.tasks) id) ≡ is_on b id
is_on-taken b id = there (λ i. i == id) (ids b.tasks) _ (place (λ i. i == id) (ids b.tasks)) ∙ sym (on_ids id b.tasks)

pub least_is_free : (b : Board) (n : ℕ) → IsLeastFree (ids b.tasks) b.number n → n ≡ free b
least_is_free b n least =
    sym (free_is b n least.from (λ k from below. sym (is_on-taken b (made b.number k)) ∙ least.taken k from below) (sym (is_on-taken b (made b.number n)) ∙ least.vacant))

pub has_place : (ts : List Task) (id : ℕ) (o : Option ℕ) → o ≡ position (has_id id) ts → is_some o ≡ list_any (has_id id) ts
has_place ts id o is = ap is_some is ∙ there (has_id id) ts _ (place (has_id id) ts)
