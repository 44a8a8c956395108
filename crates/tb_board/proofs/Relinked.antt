-- A task with other links leaves a good board good.
use Rattle.std.proofs.Common.{◌≡◌, ◌⊎◌, inl, inr, ℕ, ◌==◌, ◌||◌, Ordering, Less, Equal, Greater, Bool, true, false, not, true≢false, List, [], ◌∷◌, Option, Some, None, get_or, set, find, position, refl, sym, ◌∙◌, ap, subst, MatchOption}
use Rattle.std.specs.BTreeSet.{replace_key}
use Rattle.std.specs.Ordering.{match_ordering, nat_cmp}
use Rattle.std.specs.Set.{remove_key}
use Rattle.std.proofs.lemmas.Bool.{cases_Bool, eqb-false}
use Rattle.tb_graph.specs.Leads.{leads}
use Rattle.tb_graph.specs.Walk.{IsIn, Reaches}
use Rattle.tb_graph.proofs.Leading.{leads_decides}
use Rattle.tb_task.specs.declared.task.Task.{Task}
use Rattle.tb_board.specs.declared.board.Board.{Board}
use Rattle.tb_board.specs.Board.{is_on, lacks_depends}
use Rattle.tb_board.specs.Tasks.{has_id, ids, place_in}
use Rattle.tb_board.specs.First.{change_first, IsFirst, IsNone}
use Rattle.tb_board.specs.Good.{IsGood, IsSound}
use Rattle.tb_board.specs.Links.{leads_between, leads_on, links, places_in}
use Rattle.tb_board.proofs.Goodness.{good-relink, ids-change}
use Rattle.tb_board.proofs.Linking.{place_by_id}
use Rattle.tb_board.proofs.Places.{place}
use Rattle.tb_board.proofs.Runs.{KeepsLinks}
use Rattle.tb_board.proofs.Relinking.{acyclic-less, acyclic-more, fewer_places, more_places, or_false, place_holds}

-- the first task of an identifier, with its place
pub record IsAt (b : Board) (id : ℕ) (x : Task) : Type 0 where
  pub place : ℕ
  pub first : IsFirst (has_id id) b.tasks place
  pub is : x ≡ get_or b.tasks place x
  pub number : place_in (ids b.tasks) id ≡ Some place

at_place : (b : Board) (id : ℕ) (x : Task) (o : Option ℕ) → position (has_id id) b.tasks ≡ o → MatchOption o (IsNone (has_id id) b.tasks) (IsFirst (has_id id) b.tasks)
    → find (has_id id) b.tasks ≡ Some x → IsAt b id x
at_place b id x None at none found = absurd (true≢false (cc))
at_place b id x (Some k) at first found =
    let same : Some x ≡ Some (get_or b.tasks k x) = sym found ∙ first.found x in
    record { place = k; first = first; is = cc; number = sym (place_by_id b.tasks id) ∙ at }

pub found_at : (b : Board) (id : ℕ) (x : Task) → find (has_id id) b.tasks ≡ Some x → IsAt b id x
found_at b id x found = at_place b id x (position (has_id id) b.tasks) refl (place (has_id id) b.tasks) found

both_false : (p q : Bool) → p ≡ false → q ≡ false → (p || q) ≡ false
both_false false q none h = h
both_false true q none h = none

lacks-removed : (b : Board) (test : ℕ → Bool) (is : List ℕ) → lacks_depends b is ≡ false → lacks_depends b (remove_key test is) ≡ false
lacks-removed b test [] h = refl
lacks-removed b test (i ∷ is) h =
    let parts = or_false (not (is_on b i)) (lacks_depends b is) h in
    elim (cases_Bool (test i)) [
      | inl here ↦ rw here parts.1
      | inr other ↦ rw other (both_false (not (is_on b i)) (lacks_depends b (remove_key test is)) parts.0 (lacks-removed b test is parts.1))
    ]

lacks-replaced : (b : Board) (on : ℕ) (is : List ℕ) → not (is_on b on) ≡ false → lacks_depends b is ≡ false → lacks_depends b (replace_key nat_cmp is on) ≡ false
lacks-replaced b on [] there h = both_false (not (is_on b on)) false there refl
lacks-replaced b on (i ∷ is) there h =
    let parts = or_false (not (is_on b i)) (lacks_depends b is) h in
    by_order (both_false (not (is_on b i)) (lacks_depends b (replace_key nat_cmp is on)) parts.0 (lacks-replaced b on is there parts.1)) parts.1 (nat_cmp on i)
  where
    by_order : lacks_depends b (i ∷ replace_key nat_cmp is on) ≡ false → lacks_depends b is ≡ false
        → (o : Ordering) → lacks_depends b (match_ordering o (on ∷ i ∷ is) (on ∷ is) (i ∷ replace_key nat_cmp is on)) ≡ false
    by_order later rest Less = both_false (not (is_on b on)) (lacks_depends b (i ∷ is)) there h
    by_order later rest Equal = both_false (not (is_on b on)) (lacks_depends b is) there rest
    by_order later rest Greater = later

-- the links are as they were, or there is one more
abbrev pub HasOneMore : List ℕ → ℕ → List ℕ → Type 0
HasOneMore is on js = (js ≡ is) ⊎ (js ≡ replace_key nat_cmp is on)

linked_more : (b : Board) (on : ℕ) (is js : List ℕ) → HasOneMore is on js → not (is_on b on) ≡ false → lacks_depends b is ≡ false → lacks_depends b js ≡ false
linked_more b on is js (inl same) there h = ap (lacks_depends b) same ∙ h
linked_more b on is js (inr more) there h = ap (lacks_depends b) more ∙ lacks-replaced b on is there h

placed_more : (all : List ℕ) (on : ℕ) (is js : List ℕ) → HasOneMore is on js → (v : ℕ) → IsIn v (places_in all js) → IsIn v (places_in all is) ⊎ (place_in all on ≡ Some v)
placed_more all on is js (inl same) v h = inl (subst (λ ks. IsIn v (places_in all ks)) same h)
placed_more all on is js (inr more) v h = more_places all on is v (subst (λ ks. IsIn v (places_in all ks)) more h)

-- no walk leads back
no_walk_back : (b : Board) (id on k p : ℕ) → (id == on) ≡ false → leads_on b on id ≡ false → place_in (ids b.tasks) id ≡ Some k → place_in (ids b.tasks) on ≡ Some p
    → (k ≡ p → ⊥) × (Reaches (links b) p k → ⊥)
no_walk_back b id on k p apart none at other =
    let back : leads (links b) p k ≡ false =
    sym (ap (λ o. leads_between (links b) o (place_in (ids b.tasks) id)) other ∙ ap (leads_between (links b) (Some p)) at) ∙ none in (
      λ same. eqb-false id on apart (sym (place_holds (ids b.tasks) id k at) ∙ ap (λ n. get_or (ids b.tasks) n 0) same ∙ place_holds (ids b.tasks) on p other),
      λ r. true≢false (sym ((leads_decides (links b) p k).1 r) ∙ back),
    )

-- one link more, which closes no walk
pub good-more : (b : Board) (id on : ℕ) (f : Task → Task) (x : Task) → ((t : Task) → (f t).id ≡ t.id) → KeepsLinks f → find (has_id id) b.tasks ≡ Some x → (IsSound x → IsSound (f x))
    → HasOneMore x.depends on (f x).depends → not (is_on b on) ≡ false → (id == on) ≡ false → leads_on b on id ≡ false → IsGood b
    → IsGood (record b { tasks = change_first (has_id id) f b.tasks })
good-more b id on f x keeps links found sound more there apart none good =
    let at = found_at b id x found in
    let later : Board = record b { tasks = change_first (has_id id) f b.tasks } in
    let put : later.tasks ≡ set b.tasks at.place (f x) = at.first.changed f x ∙ ap (λ t. set b.tasks at.place (f t)) (sym at.is) in
    good-relink b (has_id id) f x keeps links found sound (linked_more b on x.depends (f x).depends more there)
    (acyclic-more b later at.place x (f x) (place_in (ids b.tasks) on) good.acyclic (ids-change (has_id id) f keeps b.tasks) put at.first.within at.is
    (placed_more (ids b.tasks) on x.depends (f x).depends more) (λ p other. no_walk_back b id on at.place p apart none at.number other))
    good

-- one link less
pub good-less : (b : Board) (id : ℕ) (f : Task → Task) (x : Task) (test : ℕ → Bool) → ((t : Task) → (f t).id ≡ t.id) → KeepsLinks f → find (has_id id) b.tasks ≡ Some x
    → (IsSound x → IsSound (f x)) → (f x).depends ≡ remove_key test x.depends → IsGood b → IsGood (record b { tasks = change_first (has_id id) f b.tasks })
good-less b id f x test keeps links found sound less good =
    let at = found_at b id x found in
    let later : Board = record b { tasks = change_first (has_id id) f b.tasks } in
    let put : later.tasks ≡ set b.tasks at.place (f x) = at.first.changed f x ∙ ap (λ t. set b.tasks at.place (f t)) (sym at.is) in
    good-relink b (has_id id) f x keeps links found sound (λ h. ap (lacks_depends b) less ∙ lacks-removed b test x.depends h)
    (acyclic-less b later at.place x (f x) good.acyclic (ids-change (has_id id) f keeps b.tasks) put at.first.within at.is
    (λ v h. fewer_places (ids b.tasks) test x.depends v (subst (λ ks. IsIn v (places_in (ids b.tasks) ks)) less h)))
    good
