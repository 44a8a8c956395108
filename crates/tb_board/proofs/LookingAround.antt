-- Whether one task is blocked or blocking, by looks at the other tasks.
use Rattle.std.proofs.Common.{◌≡◌, inl, inr, ℕ, zero, suc, ◌+◌, ◌<◌, ◌≤◌, ◌==◌, Bool, true, false, true≢false, not, ◌&&◌, ◌||◌, List, [], ◌∷◌, Option, Some, None, length, get_or, map, refl, sym, ◌∙◌, ap, arith, MatchOption}
use Rattle.std.specs.List.{list_any, range_with_len}
use Rattle.std.proofs.lemmas.Bool.{cases_Bool, cases_eq, eqb-true, eq-eqb}
use Rattle.std.proofs.lemmas.List.{get_or-map}
use Rattle.std.proofs.lemmas.List.FromFn.{get_or-map-range_with_len}
use Rattle.tb_task.specs.declared.task.Task.{Task}
use Rattle.tb_graph.specs.Blocked.{is_blocked}
use Rattle.tb_graph.specs.Marks.{is_marked}
use Rattle.tb_board.specs.declared.board.Board.{Board}
use Rattle.tb_board.specs.Tasks.{ids, place_in}
use Rattle.tb_board.specs.Blocked.{are_open, blocked, blocking, is_blocked_by, is_blocked_among, is_blocking, is_blocking_among, is_first, is_held, is_open_by_id, is_open_on, passes}
use Rattle.tb_board.specs.First.{IsFirst, IsNone}
use Rattle.tb_board.specs.Links.{depends_of, links, places_in, with_place}
use Rattle.tb_board.specs.Statuses.{is_open}
use Rattle.tb_board.proofs.Linking.{links-length}
use Rattle.tb_board.proofs.Places.{place}

-- lists on which two tests agree
same_any : {X : Type 0} (p q : X → Bool) (xs : List X) → ((x : X) → p x ≡ q x) → list_any p xs ≡ list_any q xs
same_any p q [] h = refl
same_any p q (x ∷ xs) h = ap (λ b. b || list_any p xs) (h x) ∙ ap (λ b. q x || b) (same_any p q xs h)

-- a test that nothing passes
pub no_hit : (test : ℕ → Bool) (a n : ℕ) → ((k : ℕ) → a ≤ k → k < a + n → test k ≡ false) → list_any test (range_with_len a n) ≡ false
no_hit test a zero h = refl
no_hit test a (suc n) h = rw (h a (omega arith) (omega arith)) (no_hit test (a + 1) n (λ k from to. h k (omega (arith, from)) (omega (arith, to))))

none_passes : {X : Type 0} (test : X → Bool) (xs : List X) → ((x : X) → test x ≡ false) → list_any test xs ≡ false
none_passes test [] h = refl
none_passes test (x ∷ xs) h = rw (h x) (none_passes test xs h)

-- a test of places, asked of identifiers
any_place : (test : ℕ → Bool) (all is : List ℕ) → list_any test (places_in all is) ≡ list_any (λ id. passes test (place_in all id)) is
any_place test all [] = refl
any_place test all (i ∷ is) = over (place_in all i) (places_in all is) ∙ ap (λ b. passes test (place_in all i) || b) (any_place test all is)
  where
    over : (o : Option ℕ) (xs : List ℕ) → list_any test (with_place o xs) ≡ (passes test o || list_any test xs)
    over None xs = refl
    over (Some p) xs = refl

targets_at : (all : List ℕ) (ds : List (List ℕ)) (v : ℕ) → get_or (map (places_in all) ds) v [] ≡ places_in all (get_or ds v [])
targets_at all [] v = refl
targets_at all (d ∷ ds) zero = refl
targets_at all (d ∷ ds) (suc v) = targets_at all ds v

-- the links of a task are the places of those on which it depends
targets : (b : Board) (v : ℕ) → get_or (links b) v [] ≡ places_in (ids b.tasks) (get_or (depends_of b.tasks) v [])
unfolding links
targets b v = targets_at (ids b.tasks) (depends_of b.tasks) v

open_at : (ts : List Task) (v : ℕ) (t : Task) → v < length ts → t ≡ get_or ts v t → is_marked (are_open ts) v ≡ is_open t.status
open_at ts v t within is = get_or-map (λ (u : Task). is_open u.status) ts v t false within ∙ ap (λ (u : Task). is_open u.status) (sym is)

depends_at : (ts : List Task) (v : ℕ) (t : Task) → v < length ts → t ≡ get_or ts v t → get_or (depends_of ts) v [] ≡ t.depends
depends_at ts v t within is = get_or-map (λ (u : Task). u.depends) ts v t [] within ∙ ap (λ (u : Task). u.depends) (sym is)

-- a task is blocked where it is open and one of the tasks on which it depends is open
pub blocked_at : (b : Board) (v : ℕ) (t : Task) → v < length b.tasks → t ≡ get_or b.tasks v t
    → is_marked (blocked b) v ≡ is_blocked_among b.tasks t
blocked_at b v t within is =
    let marks = is_marked (are_open b.tasks) in
    let none : 0 + v ≡ v = omega arith in
    get_or-map-range_with_len (is_blocked (links b) (are_open b.tasks)) 0 (length b.tasks) v v false within none
    ∙ ap (λ ts. marks v && list_any marks ts) (targets b v ∙ ap (places_in (ids b.tasks)) (depends_at b.tasks v t within is))
    ∙ ap (λ x. marks v && x) (any_place marks (ids b.tasks) t.depends)
    ∙ ap (λ x. x && list_any (is_open_by_id b.tasks) t.depends) (open_at b.tasks v t within is)

and_false : (p : Bool) → (p && false) ≡ false
and_false true = refl
and_false false = refl

-- the task at a place, among those that another one may hold
pub held_at : (ts : List Task) (id place other : ℕ) (t : Task) → other < length ts → t ≡ get_or ts other t
    → is_held ts id place other ≡ (not (other == place) && is_open_on id t)
held_at ts id place other t within is =
    ap (λ x. not (other == place) && (x && list_any (λ on. on == id) (get_or (depends_of ts) other []))) (open_at ts other t within is)
    ∙ ap (λ on. not (other == place) && (is_open t.status && list_any (λ i. i == id) on)) (depends_at ts other t within is)

pub held_if : (ts : List Task) (id place other : ℕ) (t : Task) → other < length ts → t ≡ get_or ts other t
    → (other == place) ≡ false → is_open_on id t ≡ true → is_held ts id place other ≡ true
held_if ts id place other t within is apart waits =
    held_at ts id place other t within is ∙ ap (λ x. not (other == place) && x) waits ∙ ap (λ x. not x && true) apart

pub free_if : (ts : List Task) (id place other : ℕ) (t : Task) → other < length ts → t ≡ get_or ts other t → is_open_on id t ≡ false → is_held ts id place other ≡ false
free_if ts id place other t within is waits = held_at ts id place other t within is ∙ ap (λ x. not (other == place) && x) waits ∙ and_false (not (other == place))

pub free_itself : (ts : List Task) (id place other : ℕ) → other ≡ place → is_held ts id place other ≡ false
free_itself ts id place other same =
    ap (λ x. not x && (is_marked (are_open ts) other && list_any (λ on. on == id) (get_or (depends_of ts) other []))) (eq-eqb other place same)

pub free_so_far : (test : ℕ → Bool) (other k : ℕ) → k < other + 1 → ((j : ℕ) → j < other → test j ≡ false) → test other ≡ false → test k ≡ false
free_so_far test other k before earlier now =
    elim (cases_eq k other) [
      | inl same ↦ ap test same ∙ now
      | inr apart ↦ earlier k (omega (arith, before, apart))
    ]

-- what stands at the place of an identifier is that identifier
at_place : (all : List ℕ) (id w d : ℕ) → passes (λ p. p == w) (place_in all id) ≡ true → get_or all w d ≡ id
at_place all id w d h = there (place_in all id) (place (λ i. i == id) all) h
  where
    there : (o : Option ℕ) → MatchOption o (IsNone (λ i. i == id) all) (IsFirst (λ i. i == id) all) → passes (λ p. p == w) o ≡ true → get_or all w d ≡ id
    there None first h = absurd (true≢false (sym h))
    there (Some p) first h = ap (λ k. get_or all k d) (sym (eqb-true p w h)) ∙ eqb-true (get_or all p d) id (first.passes d)

same_bool : (p q : Bool) → (p ≡ true → q ≡ true) → (q ≡ true → p ≡ true) → p ≡ q
same_bool true q to back = sym (to refl)
same_bool false true to back = back refl
same_bool false false to back = refl

-- links to the first task of an identifier are those of the tasks that depend on it
linked_to_first : (all is : List ℕ) (w id : ℕ) → passes (λ p. p == w) (place_in all id) ≡ true → list_any (λ t. t == w) (places_in all is) ≡ list_any (λ on. on == id) is
linked_to_first all is w id first =
    any_place (λ t. t == w) all is
    ∙ same_any (λ on. passes (λ t. t == w) (place_in all on)) (λ on. on == id) is
    (λ on.
    same_bool (passes (λ t. t == w) (place_in all on)) (on == id) (λ h. eq-eqb on id (sym (at_place all on w 0 h) ∙ at_place all id w 0 first))
    (λ h. ap (λ i. passes (λ t. t == w) (place_in all i)) (eqb-true on id h) ∙ first))

-- and no link leads to a later task of the identifier
linked_to_later : (all is : List ℕ) (w id : ℕ) → get_or all w 0 ≡ id → passes (λ p. p == w) (place_in all id) ≡ false → list_any (λ t. t == w) (places_in all is) ≡ false
linked_to_later all is w id stands later =
    any_place (λ t. t == w) all is
    ∙ none_passes (λ on. passes (λ t. t == w) (place_in all on)) is
    (λ on. same_bool (passes (λ t. t == w) (place_in all on)) false
    (λ h. absurd (true≢false (sym (ap (λ i. passes (λ t. t == w) (place_in all i)) (sym stands ∙ at_place all on w 0 h) ∙ h) ∙ later)))
    (λ h. absurd (true≢false (sym h))))

id_at : (ts : List Task) (w : ℕ) (t : Task) → w < length ts → t ≡ get_or ts w t → get_or (ids ts) w 0 ≡ t.id
id_at ts w t within is = get_or-map (λ (u : Task). u.id) ts w t 0 within ∙ ap (λ (u : Task). u.id) (sym is)

-- a task is blocking where it is open, the first of its identifier, and an open task elsewhere depends on that
pub blocking_at : (b : Board) (w : ℕ) (t : Task) → w < length b.tasks → t ≡ get_or b.tasks w t
    → is_marked (blocking b) w ≡ is_blocking_among b.tasks w t
blocking_at b w t within is =
    let g = links b in
    let opens = are_open b.tasks in
    let all = ids b.tasks in
    let numbers = range_with_len 0 (length b.tasks) in
    let none : 0 + w ≡ w = omega arith in
    get_or-map-range_with_len (is_blocking g opens) 0 (length b.tasks) w w false within none
    ∙ ap (λ n. is_marked opens w && list_any (is_blocked_by g opens w) (range_with_len 0 n)) (links-length b)
    ∙ ap (λ x. x && list_any (is_blocked_by g opens w) numbers) (open_at b.tasks w t within is)
    ∙ ap (λ x. is_open t.status && x)
    (elim (cases_Bool (is_first b.tasks t.id w)) [
      | inl first ↦
          same_any (is_blocked_by g opens w) (is_held b.tasks t.id w) numbers (λ v.
          ap (λ x. not (v == w) && (is_marked opens v && x)) (ap (list_any (λ p. p == w)) (targets b v) ∙ linked_to_first all (get_or (depends_of b.tasks) v []) w t.id first))
          ∙ ap (λ x. x && list_any (is_held b.tasks t.id w) numbers) (sym first)
      | inr later ↦
          none_passes (is_blocked_by g opens w) numbers (λ v.
          ap (λ x. not (v == w) && (is_marked opens v && x)) (ap (list_any (λ p. p == w)) (targets b v) ∙ linked_to_later all (get_or (depends_of b.tasks) v []) w t.id (id_at b.tasks w t within is) later)
          ∙ ap (λ x. not (v == w) && x) (and_false (is_marked opens v)) ∙ and_false (not (v == w)))
          ∙ ap (λ x. x && list_any (is_held b.tasks t.id w) numbers) (sym later)
    ])
