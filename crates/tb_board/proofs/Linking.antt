-- The places of identifiers, and the links that they give.
use Rattle.std.proofs.Common.{◌≡◌, ◌↔◌, IsTrue, ℕ, zero, suc, ◌+◌, ◌-◌, ◌<◌, ◌≤◌, ◌==◌, nat_lt, Bool, true, false, cond, List, [], ◌∷◌, ◌++◌, Option, Some, None, length, get_or, set, map, take, drop, replicate, position, refl, sym, ◌∙◌, ap, arith, inl, inr}
use Rattle.std.specs.List.{position_from}
use Rattle.std.specs.Ordering.{nat_cmp, is_eq}
use Rattle.std.specs.declared.cmp.Ordering.TheVariants.{Equal, Greater}
use Rattle.std.proofs.lemmas.Bool.{cases_Bool, ltb-true, ne_eqb}
use Rattle.std.proofs.lemmas.Iterator.Adapters.{position_from-zero}
use Rattle.std.proofs.lemmas.List.{get_or-set_same, map-append, length-map, append_assoc, append-nil, length-take-le}
use Rattle.std.proofs.Math.Seq.{take-suc, take-length, set-append_seam, get_or-append_seam}
use Rattle.std.specs.BTreeMap.{BTreeMap, get}
use Rattle.tb_task.specs.declared.task.Task.{Task}
use Rattle.tb_board.specs.Tasks.{has_id, ids, place_in}
use Rattle.tb_board.specs.declared.board.Board.{Board}
use Rattle.tb_board.specs.Links.{depends_of, links, places_in, with_place}
use Rattle.tb_graph.specs.Leads.{is_acyclic, leads}
use Rattle.tb_graph.specs.Walk.{Graph, IsAcyclic, Reaches}
use Rattle.tb_graph.proofs.Leading.{is_acyclic_decides, leads_decides}

-- the place of an identifier among those from place k on
abbrev pub place_from : List Task → ℕ → ℕ → Option ℕ
place_from ts k id = position_from (λ i. i == id) k (drop k (ids ts))

pub same_number : (x y : ℕ) → is_eq (nat_cmp x y) ≡ (x == y)
same_number x y =
    elim (cases_Bool (nat_lt x y)) [
      | inl less ↦ let below = ltb-true x y less in rw (less, ne_eqb x y (λ same. omega (arith, below, same))) refl
      | inr other ↦ rw other (either (x == y))
    ]
  where
    either : (b : Bool) → is_eq (cond b Equal Greater) ≡ b
    either true = refl
    either false = refl

first_at : (n : ℕ) (ts : List Task) (k : ℕ) (t : Task) (id : ℕ) → k < length ts → t ≡ get_or ts k t
    → position_from (λ i. i == id) n (drop k (ids ts)) ≡ cond (t.id == id) (Some n) (position_from (λ i. i == id) (n + 1) (drop (suc k) (ids ts)))
first_at n [] k t id within is = absurd (omega arith)
first_at n (u ∷ us) zero t id within is = rw is refl
first_at n (u ∷ us) (suc k) t id within is = first_at n us k t id (omega arith) is

-- a map that has the places after k, after the one at k is put in
pub places_more : (ts : List Task) (k next : ℕ) (t : Task) (old new : BTreeMap ℕ ℕ) → next ≡ k + 1 → k < length ts → t ≡ get_or ts k t
    → ((id : ℕ) → get nat_cmp old id ≡ place_from ts next id)
    → ((id : ℕ) → get nat_cmp new id ≡ cond (is_eq (nat_cmp t.id id)) (Some k) (get nat_cmp old id))
    → (id : ℕ) → get nat_cmp new id ≡ place_from ts k id
places_more ts k next t old new after within is before updated id =
    let one : next ≡ suc k = omega (arith, after) in
    let rest : get nat_cmp old id ≡ position_from (λ i. i == id) (k + 1) (drop (suc k) (ids ts)) =
    before id ∙ ap (λ n. position_from (λ i. i == id) n (drop next (ids ts))) after ∙ ap (λ n. position_from (λ i. i == id) (k + 1) (drop n (ids ts))) one in
    updated id ∙ ap (λ b. cond b (Some k) (get nat_cmp old id)) (same_number t.id id) ∙ ap (cond (t.id == id) (Some k)) rest
    ∙ sym (first_at k ts k t id within is)

pub places_all : (ts : List Task) (id : ℕ) → place_from ts 0 id ≡ place_in (ids ts) id
places_all ts id = sym (position_from-zero (λ i. i == id) (ids ts))

place_before : (id n : ℕ) (all : List ℕ) (p : ℕ) → position_from (λ i. i == id) n all ≡ Some p → p < n + length all
place_before id n [] p h = absurd (cc)
place_before id n (i ∷ is) p h =
    elim (cases_Bool (i == id)) [
      | inl here ↦ let found : Some n ≡ Some p = rw here at h in let same : n ≡ p = cc in omega (arith, same)
      | inr other ↦ let later : position_from (λ i. i == id) (n + 1) is ≡ Some p = rw other at h in let fits = place_before id (n + 1) is p later in omega (arith, fits)
    ]

-- a place is within the list
pub place_within : (ts : List Task) (id p : ℕ) → place_in (ids ts) id ≡ Some p → p < length ts
place_within ts id p h =
    let fits = place_before id 0 (ids ts) p (sym (position_from-zero (λ i. i == id) (ids ts)) ∙ h) in
    omega (arith, fits, length-map ts (λ (t : Task). t.id))

from_ids : (id n : ℕ) (ts : List Task) → position_from (has_id id) n ts ≡ position_from (λ i. i == id) n (ids ts)
from_ids id n [] = refl
from_ids id n (t ∷ ts) = ap (cond (t.id == id) (Some n)) (from_ids id (n + 1) ts)

-- the place of a task is that of its identifier
pub place_by_id : (ts : List Task) (id : ℕ) → position (has_id id) ts ≡ place_in (ids ts) id
place_by_id ts id = position_from-zero (has_id id) ts ∙ from_ids id 0 ts ∙ sym (position_from-zero (λ i. i == id) (ids ts))

pub places_in-append : (all is js : List ℕ) → places_in all (is ++ js) ≡ places_in all is ++ places_in all js
places_in-append all [] js = refl
places_in-append all (i ∷ is) js = ap (with_place (place_in all i)) (places_in-append all is js) ∙ over (place_in all i) (places_in all is) (places_in all js)
  where
    over : (o : Option ℕ) (xs ys : List ℕ) → with_place o (xs ++ ys) ≡ with_place o xs ++ ys
    over None xs ys = refl
    over (Some p) xs ys = refl

no_places : List ℕ
no_places = []

set_twice : {A : Type 0} (xs : List A) (i : ℕ) (x y : A) → set (set xs i x) i y ≡ set xs i y
set_twice [] i x y = refl
set_twice (z ∷ zs) zero x y = refl
set_twice (z ∷ zs) (suc i) x y = ap (λ ws. z ∷ ws) (set_twice zs i x y)

-- one more of a task's links
pub link_more : (all : List ℕ) (g links new : Graph) (from : ℕ) (items : List ℕ) (i id : ℕ) → from < length g → i < length items → id ≡ get_or items i id
    → links ≡ set g from (get_or g from [] ++ places_in all (take i items))
    → new ≡ set links from (get_or links from [] ++ places_in all (id ∷ []))
    → new ≡ set g from (get_or g from [] ++ places_in all (take (i + 1) items))
unfolding no_places
link_more all g links new from items i id within at item is new_is =
    let old = get_or g from no_places in
    let before = places_in all (take i items) in
    let last = places_in all (id ∷ []) in
    let here : get_or links from no_places ≡ old ++ before = ap (λ h. get_or h from no_places) is ∙ get_or-set_same g from (old ++ before) no_places within in
    let one : i + 1 ≡ suc i = omega arith in
    let next : take (i + 1) items ≡ take i items ++ id ∷ [] = ap (λ n. take n items) one ∙ take-suc items i id at ∙ ap (λ x. take i items ++ x ∷ []) (sym item) in
    let grown : get_or links from no_places ++ last ≡ old ++ places_in all (take (i + 1) items) =
    ap (λ xs. xs ++ last) here ∙ append_assoc old before last
    ∙ ap (λ xs. old ++ xs) (sym (places_in-append all (take i items) (id ∷ [])) ∙ ap (places_in all) (sym next)) in
    new_is ∙ ap (λ h. set h from (get_or links from no_places ++ last)) is ∙ set_twice g from (old ++ before) (get_or links from no_places ++ last) ∙ ap (set g from) grown

-- one more task's links
pub links_more : (all : List ℕ) (ts : List Task) (k : ℕ) (g new : Graph) → k < length ts
    → g ≡ map (places_in all) (take k (depends_of ts)) ++ replicate (length ts - k) []
    → new ≡ set g k (get_or g k [] ++ places_in all (get_or (depends_of ts) k []))
    → new ≡ map (places_in all) (take (k + 1) (depends_of ts)) ++ replicate (length ts - (k + 1)) []
unfolding no_places
links_more all ts k g new within is new_is =
    let ds = depends_of ts in
    let xs = map (places_in all) (take k ds) in
    let rest = replicate (length ts - (k + 1)) no_places in
    let targets = places_in all (get_or ds k no_places) in
    let whole : length ds ≡ length ts = length-map ts (λ (t : Task). t.depends) in
    let inside : k < length ds = omega (arith, within, whole) in
    let size : length xs ≡ k = length-map (take k ds) (places_in all) ∙ length-take-le k ds (omega (arith, inside)) in
    let left : length ts - k ≡ suc (length ts - (k + 1)) = omega (arith, within) in
    let one : k + 1 ≡ suc k = omega arith in
    let shape : g ≡ xs ++ no_places ∷ rest = is ∙ ap (λ n. xs ++ replicate n no_places) left in
    let here : get_or g k no_places ≡ no_places =
    ap (λ h. get_or h k no_places) shape ∙ ap (λ i. get_or (xs ++ no_places ∷ rest) i no_places) (sym size) ∙ get_or-append_seam xs no_places rest no_places in
    let put : set g k targets ≡ xs ++ targets ∷ rest =
    ap (λ h. set h k targets) shape ∙ ap (λ i. set (xs ++ no_places ∷ rest) i targets) (sym size) ∙ set-append_seam xs no_places rest targets in
    let next : map (places_in all) (take (k + 1) ds) ≡ xs ++ targets ∷ [] =
    ap (λ n. map (places_in all) (take n ds)) one ∙ ap (map (places_in all)) (take-suc ds k no_places inside)
    ∙ map-append (places_in all) (take k ds) (get_or ds k no_places ∷ []) in
    new_is ∙ ap (λ h. set g k (h ++ targets)) here ∙ put ∙ sym (append_assoc xs (targets ∷ []) rest) ∙ ap (λ h. h ++ rest) (sym next)

-- all tasks' links
pub links_all : (b : Board) (k : ℕ) (g : Graph) → k ≤ length b.tasks → length b.tasks ≤ k
    → g ≡ map (places_in (ids b.tasks)) (take k (depends_of b.tasks)) ++ replicate (length b.tasks - k) [] → g ≡ links b
unfolding no_places links
links_all b k g within done is =
    let ds = depends_of b.tasks in
    let whole : length ds ≡ length b.tasks = length-map b.tasks (λ (t : Task). t.depends) in
    let none : length b.tasks - k ≡ 0 = omega (arith, within, done) in
    let size : k ≡ length ds = omega (arith, within, done, whole) in
    is ∙ ap (λ n. map (places_in (ids b.tasks)) (take k ds) ++ replicate n no_places) none ∙ append-nil (map (places_in (ids b.tasks)) (take k ds))
    ∙ ap (λ n. map (places_in (ids b.tasks)) (take n ds)) size ∙ ap (map (places_in (ids b.tasks))) (take-length ds)

pub links-length : (b : Board) → length (links b) ≡ length b.tasks
unfolding links
links-length b = length-map (depends_of b.tasks) (places_in (ids b.tasks)) ∙ length-map b.tasks (λ (t : Task). t.depends)

same : (p q : Bool) → (p ≡ true → q ≡ true) → (q ≡ true → p ≡ true) → p ≡ q
same true q to back = sym (to refl)
same false true to back = back refl
same false false to back = refl

-- a search answers the test for walks
pub led : (g : Graph) (from to : ℕ) (answer : Bool) → IsTrue answer ↔ Reaches g from to → answer ≡ leads g from to
led g from to answer exact = same answer (leads g from to) (λ h. (leads_decides g from to).1 (exact.0 h)) (λ h. exact.1 ((leads_decides g from to).0 h))

-- and the test for walks back
pub acyclic_answer : (g : Graph) (answer : Bool) → IsTrue answer ↔ IsAcyclic g → answer ≡ is_acyclic g
acyclic_answer g answer exact = same answer (is_acyclic g) (λ h. (is_acyclic_decides g).1 (exact.0 h)) (λ h. exact.1 ((is_acyclic_decides g).0 h))
