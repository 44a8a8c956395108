-- Walks over tasks are walks over their places.
use Rattle.std.proofs.Common.{◌≡◌, inl, inr, ℕ, zero, suc, ◌==◌, ◌||◌, Bool, true, false, true≢false, List, [], ◌∷◌, Option, Some, None, map, find, position, refl, sym, ◌∙◌, ap, subst, MatchOption}
use Rattle.std.specs.List.{list_any}
use Rattle.std.proofs.lemmas.Bool.{cases_Bool, eqb-true, eq-eqb}
use Rattle.tb_graph.specs.Walk.{IsIn, IsLink, IsWalk, Reaches}
use Rattle.tb_graph.proofs.Leading.{leads_decides}
use Rattle.tb_graph.proofs.Walks.{reaches_join}
use Rattle.tb_task.specs.declared.task.Task.{Task}
use Rattle.tb_board.specs.declared.board.Board.{Board}
use Rattle.tb_board.specs.Board.{is_on}
use Rattle.tb_board.specs.Tasks.{has_id, ids, place_in}
use Rattle.tb_board.specs.First.{IsFirst, IsNone}
use Rattle.tb_board.specs.Links.{depends_of, IsAcyclic, leads_between, leads_on, links, places_in, with_place}
use Rattle.tb_board.specs.Walks.{DependsOn, HasLink, IsAcyclicByWalks, IsTaskWalk, LeadsByWalks}
use Rattle.tb_board.proofs.Linking.{place_by_id}
use Rattle.tb_board.proofs.Places.{place}
use Rattle.tb_board.proofs.Relinked.{found_at}
use Rattle.tb_board.proofs.Relinking.{in_rest, in_with, link_at, place_holds, places_of_link}

-- a task of the board has a place, and what has a place is a task of the board
record Placed (b : Board) (x : ℕ) : Type 0 where
  number : ℕ
  is : place_in (ids b.tasks) x ≡ Some number

placed_by : (b : Board) (x : ℕ) (o : Option ℕ) → position (has_id x) b.tasks ≡ o → MatchOption o (IsNone (has_id x) b.tasks) (IsFirst (has_id x) b.tasks) → is_on b x ≡ true → Placed b x
placed_by b x None at none on = absurd (true≢false (sym on ∙ none.none))
placed_by b x (Some k) at first on = record { number = k; is = sym (place_by_id b.tasks x) ∙ at }

placed : (b : Board) (x : ℕ) → is_on b x ≡ true → Placed b x
placed b x on = placed_by b x (position (has_id x) b.tasks) refl (place (has_id x) b.tasks) on

on_board : (b : Board) (x k : ℕ) → place_in (ids b.tasks) x ≡ Some k → is_on b x ≡ true
on_board b x k at =
    let first = subst (λ o. MatchOption o (IsNone (has_id x) b.tasks) (IsFirst (has_id x) b.tasks)) (place_by_id b.tasks x ∙ at) (place (has_id x) b.tasks) in
    first.stands

record Found (test : Task → Bool) (ts : List Task) : Type 0 where
  task : Task
  is : find test ts ≡ Some task

found : (test : Task → Bool) (ts : List Task) → list_any test ts ≡ true → Found test ts
found test [] h = absurd (true≢false (sym h))
found test (t ∷ ts) h =
    elim (cases_Bool (test t)) [
      | inl here ↦ record { task = t; is = rw here refl }
      | inr other ↦
          let later : list_any test ts ≡ true = rw other at h in
          let rest = found test ts later in
          record { task = rest.task; is = rw other rest.is }
    ]

same_place : (o : Option ℕ) (i j : ℕ) → o ≡ Some i → o ≡ Some j → i ≡ j
same_place o i j first second = cc

link_in : (all is : List ℕ) (y j : ℕ) → list_any (λ id. id == y) is ≡ true → place_in all y ≡ Some j → IsIn j (places_in all is)
link_in all [] y j h at = absurd (true≢false (sym h))
link_in all (i ∷ is) y j h at =
    elim (cases_Bool (i == y)) [
      | inl here ↦
          let number : place_in all i ≡ Some j = ap (place_in all) (eqb-true i y here) ∙ at in
          subst (λ o. IsIn j (with_place o (places_in all is))) (sym number) (inl refl)
      | inr other ↦
          let later : list_any (λ id. id == y) is ≡ true = rw other at h in
          in_rest j (place_in all i) (places_in all is) (link_in all is y j later at)
    ]

record Linked (all is : List ℕ) (j : ℕ) : Type 0 where
  id : ℕ
  link : list_any (λ i. i == id) is ≡ true
  at : place_in all id ≡ Some j

in_link : (all is : List ℕ) (j : ℕ) → IsIn j (places_in all is) → Linked all is j
in_link all [] j h = absurd h
in_link all (i ∷ is) j h =
    elim (in_with j (place_in all i) (places_in all is) h) [
      | inl first ↦ record { id = i; link = rw (eq-eqb i i refl) refl; at = first }
      | inr rest ↦ let later = in_link all is j rest in record { id = later.id; link = either (i == later.id) _ later.link; at = later.at }
    ]
  where
    either : (p q : Bool) → q ≡ true → (p || q) ≡ true
    either true q h = refl
    either false q h = h

-- a link between tasks is one between their places
record AreLinked (b : Board) (x y : ℕ) : Type 0 where
  from : ℕ
  to : ℕ
  from_is : place_in (ids b.tasks) x ≡ Some from
  to_is : place_in (ids b.tasks) y ≡ Some to
  walk : Reaches (links b) from to

direct : (b : Board) (x y : ℕ) → HasLink b x y → AreLinked b x y
direct b x y h =
    let at = found_at b x h.task h.found in
    let end = placed b y h.there in
    record {
      from = at.place;
      to = end.number;
      from_is = at.number;
      to_is = end.is;
      walk = ([], link_at b at.place h.task end.number at.first.within at.is (link_in (ids b.tasks) h.task.depends y end.number h.link end.is));
    }

to_places : (b : Board) (x : ℕ) (over : List ℕ) (y : ℕ) → IsTaskWalk b x over y → AreLinked b x y
to_places b x [] y h = direct b x y h
to_places b x (z ∷ zs) y h =
    let first = direct b x z h.0 in
    let rest = to_places b z zs y h.1 in
    let joint = same_place (place_in (ids b.tasks) z) rest.from first.to rest.from_is first.to_is in
    record {
      from = first.from;
      to = rest.to;
      from_is = first.from_is;
      to_is = rest.to_is;
      walk = reaches_join (links b) first.from first.to rest.to first.walk (subst (λ n. Reaches (links b) n rest.to) joint rest.walk);
    }

record LeadsTo (b : Board) (x j : ℕ) : Type 0 where
  id : ℕ
  at : place_in (ids b.tasks) id ≡ Some j
  walk : DependsOn b x id

one_link : (b : Board) (x i j : ℕ) → place_in (ids b.tasks) x ≡ Some i → IsLink (links b) i j → (y : ℕ) × (place_in (ids b.tasks) y ≡ Some j) × HasLink b x y
one_link b x i j at link =
    let own = found (has_id x) b.tasks (on_board b x i at) in
    let stands = found_at b x own.task own.is in
    let number = same_place (place_in (ids b.tasks) x) i stands.place at stands.number in
    let inside = places_of_link b stands.place own.task j stands.first.within stands.is (subst (λ n. IsLink (links b) n j) number link) in
    let end = in_link (ids b.tasks) own.task.depends j inside in
    (end.id, end.at, record { task = own.task; found = own.is; link = end.link; there = on_board b end.id j end.at })

to_tasks : (b : Board) (x i : ℕ) (over : List ℕ) (j : ℕ) → place_in (ids b.tasks) x ≡ Some i → IsWalk (links b) i over j → LeadsTo b x j
to_tasks b x i [] j at walk =
    let end = one_link b x i j at walk in
    record { id = end.0; at = end.1; walk = ([], end.2) }
to_tasks b x i (c ∷ cs) j at walk =
    let next = one_link b x i c at walk.0 in
    let rest = to_tasks b next.0 c cs j next.1 walk.1 in
    record { id = rest.id; at = rest.at; walk = (next.0 ∷ rest.walk.0, (next.2, rest.walk.1)) }

by_walk : (b : Board) (x y : ℕ) (o p : Option ℕ) → place_in (ids b.tasks) x ≡ o → place_in (ids b.tasks) y ≡ p → leads_between (links b) o p ≡ true → DependsOn b x y
by_walk b x y None p from to h = absurd (true≢false (sym h))
by_walk b x y (Some i) None from to h = absurd (true≢false (sym h))
by_walk b x y (Some i) (Some j) from to h =
    let walk = (leads_decides (links b) i j).0 h in
    let end = to_tasks b x i walk.0 j from walk.1 in
    let same : end.id ≡ y = sym (place_holds (ids b.tasks) end.id j end.at) ∙ place_holds (ids b.tasks) y j to in
    subst (DependsOn b x) same end.walk

leads_if : (b : Board) (x y : ℕ) → DependsOn b x y → leads_on b x y ≡ true
leads_if b x y h =
    let are = to_places b x h.0 y h.1 in
    ap (λ o. leads_between (links b) o (place_in (ids b.tasks) y)) are.from_is ∙ ap (leads_between (links b) (Some are.from)) are.to_is
    ∙ (leads_decides (links b) are.from are.to).1 are.walk

pub leads_by_walks : LeadsByWalks
leads_by_walks b x y = (λ h. by_walk b x y (place_in (ids b.tasks) x) (place_in (ids b.tasks) y) refl refl h, leads_if b x y)

record HasPlace (b : Board) (k : ℕ) : Type 0 where
  id : ℕ
  at : place_in (ids b.tasks) id ≡ Some k

target_of : (all : List ℕ) (ds : List (List ℕ)) (u v : ℕ) → IsLink (map (places_in all) ds) u v → (id : ℕ) × (place_in all id ≡ Some v)
target_of all [] u v link = absurd link
target_of all (d ∷ ds) zero v link = let linked = in_link all d v link in (linked.id, linked.at)
target_of all (d ∷ ds) (suc u) v link = target_of all ds u v link

end_of : (b : Board) (i : ℕ) (over : List ℕ) (j : ℕ) → IsWalk (links b) i over j → HasPlace b j
unfolding links
end_of b i [] j walk = let target = target_of (ids b.tasks) (depends_of b.tasks) i j walk in record { id = target.0; at = target.1 }
end_of b i (c ∷ cs) j walk = end_of b c cs j walk.1

none_alone : (b : Board) → IsAcyclic b → (x : ℕ) → DependsOn b x x → ⊥
none_alone b acyclic x h =
    let are = to_places b x h.0 x h.1 in
    acyclic are.from (subst (λ n. Reaches (links b) are.from n) (same_place (place_in (ids b.tasks) x) are.to are.from are.to_is are.from_is) are.walk)

acyclic_if : (b : Board) → ((x : ℕ) → DependsOn b x x → ⊥) → IsAcyclic b
acyclic_if b none k closed =
    let own = end_of b k closed.0 k closed.1 in
    let end = to_tasks b own.id k closed.0 k own.at closed.1 in
    let same : end.id ≡ own.id = sym (place_holds (ids b.tasks) end.id k end.at) ∙ place_holds (ids b.tasks) own.id k own.at in
    none own.id (subst (DependsOn b own.id) same end.walk)

pub acyclic_by_walks : IsAcyclicByWalks
acyclic_by_walks b = (none_alone b, acyclic_if b)
