-- The places of templates, where tasks come, wake or change.
use Rattle.std.proofs.Common.{◌≡◌, ℕ, ◌+◌, ◌<◌, ◌≤◌, nat_eq, Bool, true, false, ◌||◌, List, [], ◌∷◌, ◌++◌, Option, Some, None, length, map, refl, sym, ◌∙◌, ap, arith, subst, inl, inr, length-append, append_assoc}
use Rattle.std.specs.Cmp.{nat_eq_equiv}
use Rattle.std.specs.List.{AllByRecursion, list_any}
use Rattle.std.proofs.lemmas.Bool.{cases_Bool, ne_eqb}
use Rattle.std.proofs.lemmas.List.{append-nil}
use Rattle.std.proofs.lemmas.List.Folds.{list_any-append}
use Rattle.std.proofs.lemmas.Map.Keys.{IsDistinct-push}
use Rattle.std.proofs.lemmas.Map.Made.{IsDistinct-from_count}
use Rattle.tb_task.specs.declared.task.Task.{Task}
use Rattle.tb_board.specs.declared.board.Board.{Board}
use Rattle.tb_board.specs.declared.gone.Gone.{Gone}
use Rattle.tb_board.specs.Board.{wake, with_task}
use Rattle.tb_board.specs.Tasks.{woken}
use Rattle.tb_board.specs.First.{change_first}
use Rattle.tb_board.specs.Instances.{has_template, is_template_with, HasRuns, HasTemplateOn, IsGoneOn}
use Rattle.tb_board.specs.Statuses.{is_template}
use Rattle.tb_board.specs.InstancePlaces.{instance_places, place_in, with_place}
use Rattle.tb_board.specs.Templates.{gone_places, IsRun, places}

-- a number above all isn't among them
above_all : (n : ℕ) (xs : List ℕ) → AllByRecursion (λ x. x < n) xs → list_any (nat_eq n) xs ≡ false
above_all n [] h = refl
above_all n (x ∷ xs) h = let apart : nat_eq n x ≡ false = ne_eqb n x (λ same. omega (arith, same, h.0)) in rw apart (above_all n xs h.1)

all_weaker : (m n : ℕ) (xs : List ℕ) → m ≤ n → AllByRecursion (λ x. x < m) xs → AllByRecursion (λ x. x < n) xs
all_weaker m n [] le h = tt
all_weaker m n (x ∷ xs) le h = (omega (arith, le, h.0), all_weaker m n xs le h.1)

below_push : (n y : ℕ) (xs : List ℕ) → y < n → AllByRecursion (λ x. x < n) xs → AllByRecursion (λ x. x < n) (xs ++ y ∷ [])
below_push n y [] below h = (below, tt)
below_push n y (x ∷ xs) below h = (h.0, below_push n y xs below h.1)

pub run_empty : IsRun []
run_empty = record { distinct = IsDistinct-from_count nat_eq_equiv [] refl; below = tt }

-- the next number goes last
pub run_push : (xs : List ℕ) → IsRun xs → IsRun (xs ++ length xs ∷ [])
run_push xs run =
    let longer : length (xs ++ length xs ∷ []) ≡ length xs + 1 = omega (arith, length-append xs (length xs ∷ [])) in
    record {
      distinct = IsDistinct-push nat_eq_equiv xs (length xs) run.distinct (above_all (length xs) xs run.below);
      below = subst (λ n. AllByRecursion (λ x. x < n) (xs ++ length xs ∷ [])) (sym longer)
          (below_push (length xs + 1) (length xs) xs (omega arith) (all_weaker (length xs) (length xs + 1) xs (omega arith) run.below));
    }

with_place-append : (o : Option ℕ) (xs ys : List ℕ) → with_place o (xs ++ ys) ≡ with_place o xs ++ ys
with_place-append None xs ys = refl
with_place-append (Some k) xs ys = refl

pub instance_places-push : (id : ℕ) (ts : List Task) (t : Task) → instance_places id (ts ++ t ∷ []) ≡ instance_places id ts ++ with_place (place_in id t) []
instance_places-push id [] t = refl
instance_places-push id (u ∷ us) t =
    ap (with_place (place_in id u)) (instance_places-push id us t) ∙ with_place-append (place_in id u) (instance_places id us) (with_place (place_in id t) [])

pub places-push : (b : Board) (id : ℕ) (t : Task) → places (with_task b t) id ≡ places b id ++ with_place (place_in id t) []
places-push b id t = rw (instance_places-push id b.tasks t) (sym (append_assoc _ (instance_places id b.tasks) (with_place (place_in id t) [])))

-- a task without a parent takes no place
pub runs-plain : (b : Board) (t : Task) → t.parent ≡ None → HasRuns b → HasRuns (with_task b t)
runs-plain b t none runs id = rw (places-push b id t, none, append-nil (places b id)) (runs id)

instance_places-wake : (id m : ℕ) (ts : List Task) → instance_places id (map (woken m) ts) ≡ instance_places id ts
instance_places-wake id m [] = refl
instance_places-wake id m (t ∷ ts) = ap (with_place (place_in id t)) (instance_places-wake id m ts)

pub runs-wake : (b : Board) (m : ℕ) → HasRuns b → HasRuns (wake b m)
runs-wake b m runs id = subst IsRun (sym (ap (λ ps. gone_places id b.gone ++ ps) (instance_places-wake id m b.tasks))) (runs id)

-- f keeps the links between templates and instances
pub record KeepsLinks (f : Task → Task) : Type 0 where
  pub parent : (t : Task) → (f t).parent ≡ t.parent
  pub imask : (t : Task) → (f t).imask ≡ t.imask
  pub template : (t : Task) → is_template (f t) ≡ is_template t

place-kept : (id : ℕ) (t u : Task) → u.parent ≡ t.parent → u.imask ≡ t.imask → place_in id u ≡ place_in id t
place-kept id t u parent imask = rw (parent, imask) refl

instance_places-change : (id : ℕ) (test : Task → Bool) (f : Task → Task) → KeepsLinks f → (ts : List Task) → instance_places id (change_first test f ts) ≡ instance_places id ts
instance_places-change id test f keeps [] = refl
instance_places-change id test f keeps (t ∷ ts) =
    elim (cases_Bool (test t)) [
      | inl here ↦ rw here (ap (λ o. with_place o (instance_places id ts)) (place-kept id t (f t) (keeps.parent t) (keeps.imask t)))
      | inr other ↦ rw other (ap (with_place (place_in id t)) (instance_places-change id test f keeps ts))
    ]

pub runs-change : (b : Board) (test : Task → Bool) (f : Task → Task) → KeepsLinks f → HasRuns b → HasRuns (record b { tasks = change_first test f b.tasks })
runs-change b test f keeps runs id =
    subst IsRun (sym (ap (λ ps. gone_places id b.gone ++ ps) (instance_places-change id test f keeps b.tasks))) (runs id)

-- c has the templates that b has
abbrev pub HasTemplatesOf : Board → Board → Type 0
HasTemplatesOf b c = (id : ℕ) → list_any (is_template_with id) b.tasks ≡ true → list_any (is_template_with id) c.tasks ≡ true

pub parent-there : (b c : Board) (o : Option ℕ) → HasTemplatesOf b c → has_template b o ≡ true → has_template c o ≡ true
parent-there b c None all h = refl
parent-there b c (Some id) all h = all id h

pub parents-there : (b c : Board) → HasTemplatesOf b c → (ts : List Task) → AllByRecursion (HasTemplateOn b) ts → AllByRecursion (HasTemplateOn c) ts
parents-there b c all [] h = tt
parents-there b c all (t ∷ ts) h = (parent-there b c t.parent all h.0, parents-there b c all ts h.1)

pub gone-there : (b c : Board) → HasTemplatesOf b c → (gs : List Gone) → AllByRecursion (IsGoneOn b) gs → AllByRecursion (IsGoneOn c) gs
gone-there b c all [] h = tt
gone-there b c all (g ∷ gs) h = (all g.template h.0, gone-there b c all gs h.1)

or_true : (p q : Bool) → p ≡ true → (p || q) ≡ true
or_true true q h = refl
or_true false q h = absurd (cc)

pub templates-more : (b : Board) (t : Task) (id : ℕ) → list_any (is_template_with id) b.tasks ≡ true → list_any (is_template_with id) (with_task b t).tasks ≡ true
templates-more b t id h = list_any-append (is_template_with id) b.tasks (t ∷ []) ∙ or_true _ _ h

pub parents-more : (b : Board) (t : Task) (ts : List Task) → AllByRecursion (HasTemplateOn b) ts → AllByRecursion (HasTemplateOn (with_task b t)) ts
parents-more b t ts = parents-there b (with_task b t) (templates-more b t) ts

pub parent-more : (b : Board) (t u : Task) → HasTemplateOn b u → HasTemplateOn (with_task b t) u
parent-more b t u = parent-there b (with_task b t) u.parent (templates-more b t)

templates-wake : (id m : ℕ) (ts : List Task) → list_any (is_template_with id) (map (woken m) ts) ≡ list_any (is_template_with id) ts
templates-wake id m [] = refl
templates-wake id m (t ∷ ts) = ap (λ q. is_template_with id t || q) (templates-wake id m ts)

parents-woken : (c : Board) (m : ℕ) (ts : List Task) → AllByRecursion (HasTemplateOn c) ts → AllByRecursion (HasTemplateOn c) (map (woken m) ts)
parents-woken c m [] h = tt
parents-woken c m (t ∷ ts) h = (h.0, parents-woken c m ts h.1)

pub parents-wake : (b : Board) (m : ℕ) → AllByRecursion (HasTemplateOn b) b.tasks → AllByRecursion (HasTemplateOn (wake b m)) (wake b m).tasks
parents-wake b m h = parents-woken (wake b m) m b.tasks (parents-there b (wake b m) (λ id there. templates-wake id m b.tasks ∙ there) b.tasks h)

pub gone-wake : (b : Board) (m : ℕ) → AllByRecursion (IsGoneOn b) b.gone → AllByRecursion (IsGoneOn (wake b m)) b.gone
gone-wake b m h = gone-there b (wake b m) (λ id there. templates-wake id m b.tasks ∙ there) b.gone h

templates-change : (id : ℕ) (test : Task → Bool) (f : Task → Task) → ((t : Task) → (f t).id ≡ t.id) → KeepsLinks f → (ts : List Task)
    → list_any (is_template_with id) (change_first test f ts) ≡ list_any (is_template_with id) ts
templates-change id test f ids keeps [] = refl
templates-change id test f ids keeps (t ∷ ts) =
    elim (cases_Bool (test t)) [
      | inl here ↦ rw (here, ids t, keeps.template t) refl
      | inr other ↦ rw other (ap (λ q. is_template_with id t || q) (templates-change id test f ids keeps ts))
    ]

parents-changed : (c : Board) (test : Task → Bool) (f : Task → Task) → KeepsLinks f → (ts : List Task)
    → AllByRecursion (HasTemplateOn c) ts → AllByRecursion (HasTemplateOn c) (change_first test f ts)
parents-changed c test f keeps [] h = tt
parents-changed c test f keeps (t ∷ ts) h =
    elim (cases_Bool (test t)) [
      | inl here ↦ rw here (ap (has_template c) (keeps.parent t) ∙ h.0, h.1)
      | inr other ↦ rw other (h.0, parents-changed c test f keeps ts h.1)
    ]

pub parents-change : (b : Board) (test : Task → Bool) (f : Task → Task) → ((t : Task) → (f t).id ≡ t.id) → KeepsLinks f → AllByRecursion (HasTemplateOn b) b.tasks
    → AllByRecursion (HasTemplateOn (record b { tasks = change_first test f b.tasks })) (change_first test f b.tasks)
parents-change b test f ids keeps h =
    let later : Board = record b { tasks = change_first test f b.tasks } in
    parents-changed later test f keeps b.tasks (parents-there b later (λ id there. templates-change id test f ids keeps b.tasks ∙ there) b.tasks h)

pub gone-change : (b : Board) (test : Task → Bool) (f : Task → Task) → ((t : Task) → (f t).id ≡ t.id) → KeepsLinks f → AllByRecursion (IsGoneOn b) b.gone
    → AllByRecursion (IsGoneOn (record b { tasks = change_first test f b.tasks })) b.gone
gone-change b test f ids keeps h =
    gone-there b (record b { tasks = change_first test f b.tasks }) (λ id there. templates-change id test f ids keeps b.tasks ∙ there) b.gone h
