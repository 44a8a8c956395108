-- What waking and one task more keep of a good board.
use Rattle.std.proofs.Common.{◌≡◌, ℕ, suc, ◌<◌, ◌≤◌, ◌==◌, ◌||◌, nat_eq, Bool, true, false, not, List, [], ◌∷◌, ◌++◌, Some, find, length, map, refl, sym, ◌∙◌, ap, arith, subst, inl, inr, true≢false, length-append}
use Rattle.std.specs.List.{IsDistinct, AllByRecursion, list_any}
use Rattle.std.specs.List.Sorted.{IsStrictlySortedBy}
use Rattle.std.specs.Cmp.{nat_eq_equiv}
use Rattle.std.proofs.lemmas.Bool.{cases_Bool}
use Rattle.std.proofs.lemmas.List.{map-append, length-map}
use Rattle.std.proofs.lemmas.List.Folds.{list_any-append}
use Rattle.std.proofs.lemmas.Map.Keys.{IsDistinct-push}
use Rattle.tb_task.specs.declared.task.Task.{Task}
use Rattle.tb_board.specs.declared.board.Board.{Board}
use Rattle.tb_board.specs.Board.{lacks_depends}
use Rattle.tb_board.specs.Board.{is_on, wake, with_task}
use Rattle.tb_board.specs.Tasks.{ids, woken}
use Rattle.tb_board.specs.Changing.{with_ahead}
use Rattle.tb_board.specs.Good.{IsGood, IsSound, IsLinkedOn}
use Rattle.tb_board.specs.First.{change_first}
use Rattle.tb_board.proofs.Fresh.{on_ids, among-swapped}
use Rattle.tb_board.proofs.Fits.{sound_woken}
use Rattle.tb_board.specs.Links.{depends_of, IsAcyclic}
use Rattle.tb_board.proofs.Relinking.{acyclic-empty, acyclic-push, acyclic-same}
use Rattle.tb_board.specs.Instances.{by_template, HasRuns, HasTemplateOn}
use Rattle.tb_board.proofs.GoneOrder.{gone_among, order-more, order-none, order-same}
use Rattle.tb_board.proofs.Runs.{gone-change, gone-there, gone-wake, parent-more, parents-change, parents-more, parents-wake, run_empty, runs-change, runs-wake, templates-more, KeepsLinks}

pub ids-wake : (m : ℕ) (ts : List Task) → ids (map (woken m) ts) ≡ ids ts
ids-wake m [] = refl
ids-wake m (t ∷ ts) = ap (λ is. t.id ∷ is) (ids-wake m ts)

pub depends-wake : (m : ℕ) (ts : List Task) → depends_of (map (woken m) ts) ≡ depends_of ts
depends-wake m [] = refl
depends-wake m (t ∷ ts) = ap (λ ds. t.depends ∷ ds) (depends-wake m ts)

pub on-same : (b c : Board) (id : ℕ) → ids c.tasks ≡ ids b.tasks → is_on c id ≡ is_on b id
on-same b c id same = on_ids id c.tasks ∙ ap (λ is. list_any (λ x. x == id) is) same ∙ sym (on_ids id b.tasks)

pub lacks-same : (b c : Board) (is : List ℕ) → ids c.tasks ≡ ids b.tasks → lacks_depends c is ≡ lacks_depends b is
lacks-same b c [] same = refl
lacks-same b c (i ∷ is) same = rw (on-same b c i same) (ap (λ q. not (is_on b i) || q) (lacks-same b c is same))

sound-wake : (m : ℕ) (ts : List Task) → AllByRecursion IsSound ts → AllByRecursion IsSound (map (woken m) ts)
sound-wake m [] h = tt
sound-wake m (t ∷ ts) h = (sound_woken m t h.0, sound-wake m ts h.1)

linked-wake : (b : Board) (m : ℕ) (ts : List Task) → AllByRecursion (IsLinkedOn b) ts → AllByRecursion (IsLinkedOn (wake b m)) (map (woken m) ts)
linked-wake b m [] h = tt
linked-wake b m (t ∷ ts) h = (lacks-same b (wake b m) t.depends (ids-wake m b.tasks) ∙ h.0, linked-wake b m ts h.1)

pub good-wake : (b : Board) (m : ℕ) → IsGood b → IsGood (wake b m)
good-wake b m good =
    record {
      distinct = subst (IsDistinct nat_eq) (sym (ids-wake m b.tasks)) good.distinct;
      few = subst (λ n. n ≤ 10000) (sym (length-map b.tasks (woken m))) good.few;
      sound = sound-wake m b.tasks good.sound;
      linked = linked-wake b m b.tasks good.linked;
      acyclic = acyclic-same b (wake b m) (ids-wake m b.tasks) (depends-wake m b.tasks) good.acyclic;
      runs = runs-wake b m good.runs;
      parents = parents-wake b m good.parents;
      gone = gone-wake b m good.gone;
      gone_order = order-same b (wake b m) (ids-wake m b.tasks) good.gone_order;
    }

pub all_push : {A : Type 0} (P : A → Type 0) (xs : List A) (x : A) → AllByRecursion P xs → P x → AllByRecursion P (xs ++ x ∷ [])
all_push P [] x h p = (p, tt)
all_push P (y ∷ ys) x h p = (h.0, all_push P ys x h.1 p)

on-more : (b : Board) (t : Task) (id : ℕ) → not (is_on b id) ≡ false → not (is_on (with_task b t) id) ≡ false
on-more b t id on = rw (list_any-append (λ (u : Task). u.id == id) b.tasks (t ∷ [])) (either (is_on b id) (list_any (λ (u : Task). u.id == id) (t ∷ [])) on)
  where
    either : (p q : Bool) → not p ≡ false → not (p || q) ≡ false
    either true q h = refl
    either false q h = absurd (true≢false h)

pub lacks-more : (b : Board) (t : Task) (is : List ℕ) → lacks_depends b is ≡ false → lacks_depends (with_task b t) is ≡ false
lacks-more b t [] h = refl
lacks-more b t (i ∷ is) h =
    elim (cases_Bool (not (is_on b i))) [
      | inl missing ↦ let wrong : true ≡ false = rw missing at h in absurd (true≢false wrong)
      | inr there ↦ let rest : lacks_depends b is ≡ false = rw there at h in rw (on-more b t i there) (lacks-more b t is rest)
    ]

pub linked-more : (b : Board) (t : Task) (ts : List Task) → AllByRecursion (IsLinkedOn b) ts → AllByRecursion (IsLinkedOn (with_task b t)) ts
linked-more b t [] h = tt
linked-more b t (u ∷ us) h = (lacks-more b t u.depends h.0, linked-more b t us h.1)

pub good-push : (b : Board) (t : Task) → IsGood b → length b.tasks < 10000 → is_on b t.id ≡ false → IsSound t → IsLinkedOn b t
    → HasRuns (with_task b t) → HasTemplateOn b t → IsGood (with_task b t)
good-push b t good room alone sound linked runs parent =
    let apart : list_any (nat_eq t.id) (ids b.tasks) ≡ false = among-swapped t.id (ids b.tasks) ∙ sym (on_ids t.id b.tasks) ∙ alone in
    record {
      distinct = subst (IsDistinct nat_eq) (sym (map-append (λ (u : Task). u.id) b.tasks (t ∷ [])))
          (IsDistinct-push nat_eq_equiv (ids b.tasks) t.id good.distinct apart);
      few = omega (arith, room, length-append b.tasks (t ∷ []));
      sound = all_push IsSound b.tasks t good.sound sound;
      linked = all_push (IsLinkedOn (with_task b t)) b.tasks t (linked-more b t b.tasks good.linked) (lacks-more b t t.depends linked);
      acyclic = acyclic-push b t good.acyclic good.linked linked;
      runs = runs;
      parents = all_push (HasTemplateOn (with_task b t)) b.tasks t (parents-more b t b.tasks good.parents) (parent-more b t t parent);
      gone = gone-there b (with_task b t) (templates-more b t) b.gone good.gone;
      gone_order = subst (λ all. IsStrictlySortedBy (by_template all) b.gone) (sym (map-append (λ (u : Task). u.id) b.tasks (t ∷ [])))
          (order-more (ids b.tasks) (t.id ∷ []) b.gone (gone_among b b.gone good.gone) good.gone_order);
    }

-- f keeps identifiers, dependencies, and the links between templates and instances
pub record Keeps (f : Task → Task) : Type 0 where
  pub id : (t : Task) → (f t).id ≡ t.id
  pub depends : (t : Task) → (f t).depends ≡ t.depends
  pub links : KeepsLinks f

pub ids-change : (test : Task → Bool) (f : Task → Task) → ((t : Task) → (f t).id ≡ t.id) → (ts : List Task) → ids (change_first test f ts) ≡ ids ts
ids-change test f keeps [] = refl
ids-change test f keeps (t ∷ ts) =
    elim (cases_Bool (test t)) [
      | inl here ↦ rw here (ap (λ i. i ∷ ids ts) (keeps t))
      | inr other ↦ rw other (ap (λ is. t.id ∷ is) (ids-change test f keeps ts))
    ]

length-change : (test : Task → Bool) (f : Task → Task) (ts : List Task) → length (change_first test f ts) ≡ length ts
length-change test f [] = refl
length-change test f (t ∷ ts) =
    elim (cases_Bool (test t)) [
      | inl here ↦ rw here refl
      | inr other ↦ rw other (ap suc (length-change test f ts))
    ]

depends-change : (test : Task → Bool) (f : Task → Task) → Keeps f → (ts : List Task) → depends_of (change_first test f ts) ≡ depends_of ts
depends-change test f keeps [] = refl
depends-change test f keeps (t ∷ ts) =
    elim (cases_Bool (test t)) [
      | inl here ↦ rw here (ap (λ ds. ds ∷ depends_of ts) (keeps.depends t))
      | inr other ↦ rw other (ap (λ ds. t.depends ∷ ds) (depends-change test f keeps ts))
    ]

-- what holds of each task still does where f keeps it at the one that is found
all-change : (P : Task → Type 0) (test : Task → Bool) (f : Task → Task) (ts : List Task) (x : Task) → find test ts ≡ Some x → (P x → P (f x))
    → AllByRecursion P ts → AllByRecursion P (change_first test f ts)
all-change P test f [] x h keeps all = tt
all-change P test f (t ∷ ts) x h keeps all =
    elim (cases_Bool (test t)) [
      | inl here ↦
          let found : Some t ≡ Some x = rw here at h in
          let is : x ≡ t = cc in
          rw here (subst (λ (u : Task). P u → P (f u)) is keeps all.0, all.1)
      | inr other ↦
          let later : find test ts ≡ Some x = rw other at h in
          rw other (all.0, all-change P test f ts x later keeps all.1)
    ]

linked-change : (b c : Board) (test : Task → Bool) (f : Task → Task) → Keeps f → ids c.tasks ≡ ids b.tasks → (ts : List Task)
    → AllByRecursion (IsLinkedOn b) ts → AllByRecursion (IsLinkedOn c) (change_first test f ts)
linked-change b c test f keeps same [] h = tt
linked-change b c test f keeps same (t ∷ ts) h =
    elim (cases_Bool (test t)) [
      | inl here ↦ rw here (ap (lacks_depends c) (keeps.depends t) ∙ lacks-same b c t.depends same ∙ h.0, others ts h.1)
      | inr other ↦ rw other (lacks-same b c t.depends same ∙ h.0, linked-change b c test f keeps same ts h.1)
    ]
  where
    others : (us : List Task) → AllByRecursion (IsLinkedOn b) us → AllByRecursion (IsLinkedOn c) us
    others [] h = tt
    others (u ∷ us) h = (lacks-same b c u.depends same ∙ h.0, others us h.1)

pub good-change : (b : Board) (test : Task → Bool) (f : Task → Task) (x : Task) → Keeps f → find test b.tasks ≡ Some x → (IsSound x → IsSound (f x)) → IsGood b
    → IsGood (record b { tasks = change_first test f b.tasks })
good-change b test f x keeps found sound good =
    let later : Board = record b { tasks = change_first test f b.tasks } in
    record {
      distinct = subst (IsDistinct nat_eq) (sym (ids-change test f keeps.id b.tasks)) good.distinct;
      few = subst (λ n. n ≤ 10000) (sym (length-change test f b.tasks)) good.few;
      sound = all-change IsSound test f b.tasks x found sound good.sound;
      linked = linked-change b later test f keeps (ids-change test f keeps.id b.tasks) b.tasks good.linked;
      acyclic = acyclic-same b later (ids-change test f keeps.id b.tasks) (depends-change test f keeps b.tasks) good.acyclic;
      runs = runs-change b test f keeps.links good.runs;
      parents = parents-change b test f keeps.id keeps.links good.parents;
      gone = gone-change b test f keeps.id keeps.links good.gone;
      gone_order = order-same b later (ids-change test f keeps.id b.tasks) good.gone_order;
    }

linked-same : (b c : Board) (ts : List Task) → ids c.tasks ≡ ids b.tasks → AllByRecursion (IsLinkedOn b) ts → AllByRecursion (IsLinkedOn c) ts
linked-same b c [] same h = tt
linked-same b c (t ∷ ts) same h = (lacks-same b c t.depends same ∙ h.0, linked-same b c ts same h.1)

-- f keeps identifiers, and its links stay on the board and close no walk
pub good-relink : (b : Board) (test : Task → Bool) (f : Task → Task) (x : Task) → ((t : Task) → (f t).id ≡ t.id) → KeepsLinks f → find test b.tasks ≡ Some x
    → (IsSound x → IsSound (f x)) → (IsLinkedOn b x → IsLinkedOn b (f x)) → IsAcyclic (record b { tasks = change_first test f b.tasks }) → IsGood b
    → IsGood (record b { tasks = change_first test f b.tasks })
good-relink b test f x keeps links found sound linked acyclic good =
    let later : Board = record b { tasks = change_first test f b.tasks } in
    let same = ids-change test f keeps b.tasks in
    record {
      distinct = subst (IsDistinct nat_eq) (sym same) good.distinct;
      few = subst (λ n. n ≤ 10000) (sym (length-change test f b.tasks)) good.few;
      sound = all-change IsSound test f b.tasks x found sound good.sound;
      linked = linked-same b later later.tasks same (all-change (IsLinkedOn b) test f b.tasks x found linked good.linked);
      acyclic = acyclic;
      runs = runs-change b test f links good.runs;
      parents = parents-change b test f keeps links good.parents;
      gone = gone-change b test f keeps links good.gone;
      gone_order = order-same b later same good.gone_order;
    }

-- a board is as good however far ahead it looks
pub good-ahead : (b : Board) (ahead : ℕ) → IsGood b → IsGood (with_ahead ahead b)
good-ahead b ahead good =
    record {
      distinct = good.distinct;
      few = good.few;
      sound = good.sound;
      linked = good.linked;
      acyclic = acyclic-same b (with_ahead ahead b) refl refl good.acyclic;
      runs = good.runs;
      parents = good.parents;
      gone = good.gone;
      gone_order = good.gone_order;
    }

-- a board without tasks
pub good-empty : (number : ℕ) (title : List ℕ) → IsGood (record { number = number; title = title; tasks = []; gone = []; ahead = 1 })
good-empty number title =
    record {
      distinct = run_empty.distinct;
      few = omega arith;
      sound = tt;
      linked = tt;
      acyclic = acyclic-empty (record { number = number; title = title; tasks = []; gone = []; ahead = 1 }) refl;
      runs = λ id. run_empty;
      parents = tt;
      gone = tt;
      gone_order = order-none [];
    }
