-- How the links of a board change with its tasks.
use Rattle.std.proofs.Common.{◌≡◌, ◌⊎◌, inl, inr, ℕ, zero, suc, ◌+◌, ◌<◌, ◌==◌, ◌||◌, Bool, true, false, not, true≢false, Ordering, Less, Equal, Greater, List, [], ◌∷◌, ◌++◌, Option, Some, None, length, get_or, set, map, refl, sym, ◌∙◌, ap, subst, arith, MatchOption}
use Rattle.std.specs.BTreeSet.{replace_key}
use Rattle.std.specs.List.{AllByRecursion, list_any, position_from}
use Rattle.std.specs.Ordering.{match_ordering, nat_cmp}
use Rattle.std.specs.Set.{remove_key}
use Rattle.std.proofs.lemmas.Bool.{cases_Bool, eqb-true}
use Rattle.std.proofs.lemmas.List.{map-append}
use Rattle.std.proofs.lemmas.Iterator.Adapters.{position_from-zero}
use Rattle.tb_graph.specs.Walk.{Graph, IsIn, IsLink, Reaches}
use Rattle.tb_graph.specs.Walk as walk
use Rattle.tb_task.specs.declared.task.Task.{Task}
use Rattle.tb_board.specs.declared.board.Board.{Board}
use Rattle.tb_board.specs.Board.{is_on, lacks_depends, with_task}
use Rattle.tb_board.specs.Tasks.{ids, place_in}
use Rattle.tb_board.specs.First.{IsFirst, IsNone}
use Rattle.tb_board.specs.Good.{IsLinkedOn}
use Rattle.tb_board.specs.Links.{depends_of, IsAcyclic, links, places_in, with_place}
use Rattle.tb_board.proofs.Acyclic.{acyclic_next, acyclic_with, acyclic_without, link_last, link_set}
use Rattle.tb_board.proofs.Fresh.{on_ids}
use Rattle.tb_board.proofs.Linking.{links-length, place_within}
use Rattle.tb_board.proofs.Places.{place}

-- boards with the same identifiers and the same links between them
links-same : (b c : Board) → ids c.tasks ≡ ids b.tasks → depends_of c.tasks ≡ depends_of b.tasks → links c ≡ links b
unfolding links
links-same b c same depends = ap (λ all. map (places_in all) (depends_of c.tasks)) same ∙ ap (map (places_in (ids b.tasks))) depends

pub acyclic-same : (b c : Board) → ids c.tasks ≡ ids b.tasks → depends_of c.tasks ≡ depends_of b.tasks → IsAcyclic b → IsAcyclic c
acyclic-same b c same depends acyclic = subst walk.IsAcyclic (sym (links-same b c same depends)) acyclic

pub in_with : (v : ℕ) (o : Option ℕ) (ps : List ℕ) → IsIn v (with_place o ps) → (o ≡ Some v) ⊎ IsIn v ps
in_with v None ps h = inr h
in_with v (Some p) ps (inl e) = inl (ap Some e)
in_with v (Some p) ps (inr h) = inr h

pub in_rest : (v : ℕ) (o : Option ℕ) (ps : List ℕ) → IsIn v ps → IsIn v (with_place o ps)
in_rest v None ps h = h
in_rest v (Some p) ps h = inr h

in_first : (v : ℕ) (o : Option ℕ) (ps qs : List ℕ) → (IsIn v ps → IsIn v qs) → IsIn v (with_place o ps) → IsIn v (with_place o qs)
in_first v None ps qs more h = more h
in_first v (Some p) ps qs more (inl e) = inl e
in_first v (Some p) ps qs more (inr h) = inr (more h)

-- the places after a link was taken out
pub fewer_places : (all : List ℕ) (test : ℕ → Bool) (is : List ℕ) (v : ℕ) → IsIn v (places_in all (remove_key test is)) → IsIn v (places_in all is)
fewer_places all test [] v h = h
fewer_places all test (i ∷ is) v h =
    elim (cases_Bool (test i)) [
      | inl here ↦ let rest : IsIn v (places_in all is) = rw here at h in in_rest v (place_in all i) (places_in all is) rest
      | inr other ↦
          let kept : IsIn v (with_place (place_in all i) (places_in all (remove_key test is))) = rw other at h in
          in_first v (place_in all i) (places_in all (remove_key test is)) (places_in all is) (fewer_places all test is v) kept
    ]

-- the places after a link was put in
pub more_places : (all : List ℕ) (on : ℕ) (is : List ℕ) (v : ℕ) → IsIn v (places_in all (replace_key nat_cmp is on)) → IsIn v (places_in all is) ⊎ (place_in all on ≡ Some v)
more_places all on [] v h = elim (in_with v (place_in all on) [] h) [ inl new ↦ inr new | inr none ↦ absurd none ]
more_places all on (i ∷ is) v h = by_order (more_places all on is v) (nat_cmp on i) h
  where
    in_here : (o : Option ℕ) (ps : List ℕ) → o ≡ Some v → IsIn v (with_place o ps)
    in_here None ps e = absurd (cc)
    in_here (Some p) ps e = inl (cc)

    by_order : (IsIn v (places_in all (replace_key nat_cmp is on)) → IsIn v (places_in all is) ⊎ (place_in all on ≡ Some v))
        → (o : Ordering) → IsIn v (places_in all (match_ordering o (on ∷ i ∷ is) (on ∷ is) (i ∷ replace_key nat_cmp is on)))
        → IsIn v (places_in all (i ∷ is)) ⊎ (place_in all on ≡ Some v)
    by_order later Less h = elim (in_with v (place_in all on) (places_in all (i ∷ is)) h) [ inl new ↦ inr new | inr old ↦ inl old ]
    by_order later Equal h =
        elim (in_with v (place_in all on) (places_in all is) h) [ inl new ↦ inr new | inr old ↦ inl (in_rest v (place_in all i) (places_in all is) old) ]
    by_order later Greater h =
        elim (in_with v (place_in all i) (places_in all (replace_key nat_cmp is on)) h) [
          | inl first ↦ inl (in_here (place_in all i) (places_in all is) first)
          | inr rest ↦ elim (later rest) [
            | inl old ↦ inl (in_rest v (place_in all i) (places_in all is) old)
            | inr new ↦ inr new
          ]
        ]

depends-set : (ts : List Task) (k : ℕ) (t : Task) → depends_of (set ts k t) ≡ set (depends_of ts) k t.depends
depends-set [] k t = refl
depends-set (u ∷ us) zero t = refl
depends-set (u ∷ us) (suc k) t = ap (λ ds. u.depends ∷ ds) (depends-set us k t)

places-set : (all : List ℕ) (ds : List (List ℕ)) (k : ℕ) (is : List ℕ) → map (places_in all) (set ds k is) ≡ set (map (places_in all) ds) k (places_in all is)
places-set all [] k is = refl
places-set all (d ∷ ds) zero is = refl
places-set all (d ∷ ds) (suc k) is = ap (λ g. places_in all d ∷ g) (places-set all ds k is)

places_at : (all : List ℕ) (ts : List Task) (k : ℕ) (t : Task) → k < length ts → t ≡ get_or ts k t → get_or (map (places_in all) (depends_of ts)) k [] ≡ places_in all t.depends
places_at all [] k t within is = absurd (omega arith)
places_at all (u ∷ us) zero t within is = ap (λ (x : Task). places_in all x.depends) (sym is)
places_at all (u ∷ us) (suc k) t within is = places_at all us k t (omega arith) is

-- the links of a board whose task at place k has other ones
links-set : (b c : Board) (k : ℕ) (t : Task) → ids c.tasks ≡ ids b.tasks → c.tasks ≡ set b.tasks k t → links c ≡ set (links b) k (places_in (ids b.tasks) t.depends)
unfolding links
links-set b c k t same is =
    ap (λ all. map (places_in all) (depends_of c.tasks)) same ∙ ap (λ ts. map (places_in (ids b.tasks)) (depends_of ts)) is
    ∙ ap (map (places_in (ids b.tasks))) (depends-set b.tasks k t) ∙ places-set (ids b.tasks) (depends_of b.tasks) k t.depends

pub link_at : (b : Board) (k : ℕ) (t : Task) (v : ℕ) → k < length b.tasks → t ≡ get_or b.tasks k t → IsIn v (places_in (ids b.tasks) t.depends) → IsLink (links b) k v
unfolding links
link_at b k t v within is h = subst (IsIn v) (sym (places_at (ids b.tasks) b.tasks k t within is)) h

pub places_of_link : (b : Board) (k : ℕ) (t : Task) (v : ℕ) → k < length b.tasks → t ≡ get_or b.tasks k t → IsLink (links b) k v → IsIn v (places_in (ids b.tasks) t.depends)
unfolding links
places_of_link b k t v within is h = subst (IsIn v) (places_at (ids b.tasks) b.tasks k t within is) h

-- a task that keeps some of its links
pub acyclic-less : (b c : Board) (k : ℕ) (t u : Task) → IsAcyclic b → ids c.tasks ≡ ids b.tasks → c.tasks ≡ set b.tasks k u
    → k < length b.tasks → t ≡ get_or b.tasks k t
    → ((v : ℕ) → IsIn v (places_in (ids b.tasks) u.depends) → IsIn v (places_in (ids b.tasks) t.depends)) → IsAcyclic c
acyclic-less b c k t u acyclic same is within at fewer =
    let targets = places_in (ids b.tasks) u.depends in
    subst walk.IsAcyclic (sym (links-set b c k u same is))
    (acyclic_without (links b) (set (links b) k targets) acyclic
    (λ x y link. elim (link_set (links b) k targets x y link) [
      | inl old ↦ old
      | inr new ↦ subst (λ n. IsLink (links b) n y) (sym new.0) (link_at b k t y within at (fewer y new.1))
    ]))

-- a task that has one more link, which closes no walk
pub acyclic-more : (b c : Board) (k : ℕ) (t u : Task) (o : Option ℕ) → IsAcyclic b → ids c.tasks ≡ ids b.tasks → c.tasks ≡ set b.tasks k u
    → k < length b.tasks → t ≡ get_or b.tasks k t
    → ((v : ℕ) → IsIn v (places_in (ids b.tasks) u.depends) → IsIn v (places_in (ids b.tasks) t.depends) ⊎ (o ≡ Some v))
    → ((p : ℕ) → o ≡ Some p → (k ≡ p → ⊥) × (Reaches (links b) p k → ⊥)) → IsAcyclic c
acyclic-more b c k t u None acyclic same is within at more closes =
    acyclic-less b c k t u acyclic same is within at (λ v h. elim (more v h) [ inl old ↦ old | inr new ↦ absurd (cc) ])
acyclic-more b c k t u (Some p) acyclic same is within at more closes =
    let targets = places_in (ids b.tasks) u.depends in
    let none = closes p refl in
    subst walk.IsAcyclic (sym (links-set b c k u same is))
    (acyclic_with (links b) (set (links b) k targets) k p acyclic none.0 none.1
    (λ x y link. elim (link_set (links b) k targets x y link) [
      | inl old ↦ inl old
      | inr new ↦ elim (more y new.1) [
        | inl before ↦ inl (subst (λ n. IsLink (links b) n y) (sym new.0) (link_at b k t y within at before))
        | inr e ↦ let here : y ≡ p = cc in inr (new.0, here)
      ]
    ]))

place_next : (id n : ℕ) (all : List ℕ) (new : ℕ) → list_any (λ i. i == id) all ≡ true → position_from (λ i. i == id) n (all ++ new ∷ []) ≡ position_from (λ i. i == id) n all
place_next id n [] new on = absurd (true≢false (sym on))
place_next id n (i ∷ is) new on =
    elim (cases_Bool (i == id)) [
      | inl here ↦ rw here refl
      | inr other ↦ let rest : list_any (λ i. i == id) is ≡ true = rw other at on in rw other (place_next id (n + 1) is new rest)
    ]

not_missing : (q : Bool) → not q ≡ false → q ≡ true
not_missing true h = refl
not_missing false h = absurd (true≢false h)

pub or_false : (p q : Bool) → (p || q) ≡ false → (p ≡ false) × (q ≡ false)
or_false true q h = absurd (true≢false h)
or_false false q h = (refl, h)

places-next : (b : Board) (new : ℕ) (is : List ℕ) → lacks_depends b is ≡ false → places_in (ids b.tasks ++ new ∷ []) is ≡ places_in (ids b.tasks) is
places-next b new [] h = refl
places-next b new (i ∷ is) h =
    let parts = or_false (not (is_on b i)) (lacks_depends b is) h in
    let on : list_any (λ x. x == i) (ids b.tasks) ≡ true = sym (on_ids i b.tasks) ∙ not_missing (is_on b i) parts.0 in
    let same : place_in (ids b.tasks ++ new ∷ []) i ≡ place_in (ids b.tasks) i =
    position_from-zero (λ x. x == i) (ids b.tasks ++ new ∷ []) ∙ place_next i 0 (ids b.tasks) new on ∙ sym (position_from-zero (λ x. x == i) (ids b.tasks)) in
    ap (λ o. with_place o (places_in (ids b.tasks ++ new ∷ []) is)) same ∙ ap (with_place (place_in (ids b.tasks) i)) (places-next b new is parts.1)

all-next : (b : Board) (new : ℕ) (ts : List Task) → AllByRecursion (IsLinkedOn b) ts
    → map (places_in (ids b.tasks ++ new ∷ [])) (depends_of ts) ≡ map (places_in (ids b.tasks)) (depends_of ts)
all-next b new [] h = refl
all-next b new (t ∷ ts) h =
    ap (λ ps. ps ∷ map (places_in (ids b.tasks ++ new ∷ [])) (depends_of ts)) (places-next b new t.depends h.0)
    ∙ ap (λ g. places_in (ids b.tasks) t.depends ∷ g) (all-next b new ts h.1)

-- the links of a board with one more task, which depends on tasks that were there
links-next : (b : Board) (t : Task) → AllByRecursion (IsLinkedOn b) b.tasks → IsLinkedOn b t
    → links (with_task b t) ≡ links b ++ places_in (ids b.tasks) t.depends ∷ []
unfolding links
links-next b t linked own =
    let all = ids b.tasks ++ t.id ∷ [] in
    ap (λ is. map (places_in is) (depends_of (b.tasks ++ t ∷ []))) (map-append (λ (u : Task). u.id) b.tasks (t ∷ []))
    ∙ ap (map (places_in all)) (map-append (λ (u : Task). u.depends) b.tasks (t ∷ []))
    ∙ map-append (places_in all) (depends_of b.tasks) (t.depends ∷ [])
    ∙ ap (λ g. g ++ places_in all t.depends ∷ []) (all-next b t.id b.tasks linked)
    ∙ ap (λ ps. map (places_in (ids b.tasks)) (depends_of b.tasks) ++ ps ∷ []) (places-next b t.id t.depends own)

targets_within : (ts : List Task) (is : List ℕ) (v : ℕ) → IsIn v (places_in (ids ts) is) → v < length ts
targets_within ts [] v h = absurd h
targets_within ts (i ∷ is) v h =
    elim (in_with v (place_in (ids ts) i) (places_in (ids ts) is) h) [
      | inl first ↦ place_within ts i v first
      | inr rest ↦ targets_within ts is v rest
    ]

each_within : (ts : List Task) (ds : List (List ℕ)) (u v : ℕ) → IsLink (map (places_in (ids ts)) ds) u v → v < length ts
each_within ts [] u v link = absurd link
each_within ts (d ∷ ds) zero v link = targets_within ts d v link
each_within ts (d ∷ ds) (suc u) v link = each_within ts ds u v link

links_within : (b : Board) (u v : ℕ) → IsLink (links b) u v → v < length (links b)
unfolding links
links_within b u v link = let fits = each_within b.tasks (depends_of b.tasks) u v link in omega (arith, fits, links-length b)

pub acyclic-push : (b : Board) (t : Task) → IsAcyclic b → AllByRecursion (IsLinkedOn b) b.tasks → IsLinkedOn b t → IsAcyclic (with_task b t)
acyclic-push b t acyclic linked own =
    let targets = places_in (ids b.tasks) t.depends in
    subst walk.IsAcyclic (sym (links-next b t linked own))
    (acyclic_next (links b) (links b ++ targets ∷ []) acyclic
    (λ u v link. elim (link_last (links b) targets u v link) [
      | inl old ↦ (links_within b u v old, inl old)
      | inr new ↦ let fits = targets_within b.tasks t.depends v new.1 in (omega (arith, fits, links-length b), inr new.0)
    ]))

-- a task at a place has the identifier of that place
pub place_holds : (all : List ℕ) (id k : ℕ) → place_in all id ≡ Some k → get_or all k 0 ≡ id
place_holds all id k at =
    let first = subst (λ o. MatchOption o (IsNone (λ i. i == id) all) (IsFirst (λ i. i == id) all)) at (place (λ i. i == id) all) in
    eqb-true (get_or all k 0) id (first.passes 0)

no_walk : (g : Graph) → g ≡ [] → (x : ℕ) (over : List ℕ) (y : ℕ) → walk.IsWalk g x over y → ⊥
no_walk [] e x [] y h = h
no_walk [] e x (c ∷ cs) y h = h.0
no_walk (ts ∷ g) e x over y h = absurd (cc)

-- a board without tasks has no links
pub acyclic-empty : (b : Board) → b.tasks ≡ [] → IsAcyclic b
unfolding links
acyclic-empty b none a closed =
    no_walk (links b) (ap (λ (ts : List Task). map (places_in (ids ts)) (depends_of ts)) none) a closed.0 a closed.1
