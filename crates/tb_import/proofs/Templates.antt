-- What new tasks bring to a board.
use Rattle.std.proofs.Common.{◌≡◌, ℕ, ◌+◌, ◌==◌, ◌||◌, nat_eq, not, Bool, true, false, true≢false, List, [], ◌∷◌, ◌++◌, Option, Some, None, is_some, if◌then◌else◌, unwrap_or, filter, refl, sym, ◌∙◌, ap, subst, inl, inr, append_assoc}
use Rattle.std.specs.List.{AllByRecursion, IsDistinct, list_any}
use Rattle.std.specs.Cmp.{nat_eq_equiv}
use Rattle.std.proofs.lemmas.Bool.{cases_Bool, eq-eqb}
use Rattle.std.proofs.lemmas.List.{append-nil, map-append}
use Rattle.std.proofs.lemmas.List.Folds.{list_any-append}
use Rattle.std.proofs.lemmas.Map.Keys.{IsDistinct-push}
use Rattle.tb_task.specs.declared.incoming.Incoming.{Incoming}
use Rattle.tb_task.specs.declared.task.Task.{Task}
use Rattle.tb_board.specs.declared.board.Board.{Board}
use Rattle.tb_board.specs.declared.gone.Gone.{Gone}
use Rattle.tb_board.specs.Board.{is_on, lacks_depends}
use Rattle.tb_board.specs.Tasks.{has_id, ids}
use Rattle.tb_board.specs.Changing.{without_place}
use Rattle.tb_board.specs.Instances.{has_template, is_template_with, IsGoneOn}
use Rattle.tb_board.specs.Statuses.{is_template}
use Rattle.tb_board.specs.Templates.{is_gone_at}
use Rattle.tb_board.proofs.Fits.{and_true, not_true}
use Rattle.tb_board.proofs.Fresh.{among-swapped, on_ids}
use Rattle.tb_import.specs.Entering.{entered, is_gone, is_linked, is_new_template, is_new_template_with, is_parent, is_taken, left_by, mask_in, mask_places, marked_from, takes, with_all, with_new, without_taken}
use Rattle.tb_import.specs.News.{found_new, has_own_id, is_there}
use Rattle.tb_import.proofs.Moving.{is_number, or_left, or_parts, or_right}
use Rattle.tb_import.proofs.Numbering.{on_own, own_ids}
use Rattle.tb_import.proofs.Sound.{takes_none}

-- the tasks as they go to the board, and the places that are gone after them
abbrev pub entered_tasks : Board → List Incoming → List Gone → List Incoming → List Task
entered_tasks b new gs [] = []
entered_tasks b new gs (i ∷ is) = entered b new (takes b new gs i) i ∷ entered_tasks b new (left_by b new gs i) is

abbrev pub left_all : Board → List Incoming → List Gone → List Incoming → List Gone
left_all b new gs [] = gs
left_all b new gs (i ∷ is) = left_all b new (left_by b new gs i) is

pub shape : (b : Board) (new : List Incoming) (c : Board) (is : List Incoming)
    → with_all b new c is ≡ record c { tasks = c.tasks ++ entered_tasks b new c.gone is; gone = left_all b new c.gone is }
shape b new c [] = ap (λ ts. record c { tasks = ts }) (sym (append-nil c.tasks))
shape b new c (i ∷ is) =
    shape b new (with_new b new c i) is
    ∙ ap (λ ts. record c { tasks = ts; gone = left_all b new (left_by b new c.gone i) is })
    (append_assoc c.tasks (entered b new (takes b new c.gone i) i ∷ []) (entered_tasks b new (left_by b new c.gone i) is))

ids_entered : (b : Board) (new : List Incoming) (gs : List Gone) (is : List Incoming) → ids (entered_tasks b new gs is) ≡ own_ids is
ids_entered b new gs [] = refl
ids_entered b new gs (i ∷ is) = ap (λ xs. i.task.id ∷ xs) (ids_entered b new (left_by b new gs i) is)

pub ids_after : (b : Board) (new : List Incoming) (gs : List Gone) → ids (b.tasks ++ entered_tasks b new gs new) ≡ ids b.tasks ++ own_ids new
ids_after b new gs = map-append (λ (t : Task). t.id) b.tasks (entered_tasks b new gs new) ∙ ap (λ xs. ids b.tasks ++ xs) (ids_entered b new gs new)

-- who is on the board then
pub there_after : (b later : Board) (new : List Incoming) (gs : List Gone) → later.tasks ≡ b.tasks ++ entered_tasks b new gs new → (q : ℕ) → is_on later q ≡ is_there b new q
there_after b later new gs is q =
    ap (list_any (has_id q)) is ∙ list_any-append (has_id q) b.tasks (entered_tasks b new gs new)
    ∙ ap (λ p. is_on b q || p) (on_ids q (entered_tasks b new gs new) ∙ ap (list_any (is_number q)) (ids_entered b new gs new) ∙ sym (on_own q new))

-- new tasks' identifiers differ, and are on no board
pub found_distinct : (b : Board) (found is : List Incoming) → IsDistinct nat_eq (ids b.tasks ++ own_ids found) → IsDistinct nat_eq (ids b.tasks ++ own_ids (found_new b found is))
found_distinct b found [] h = h
found_distinct b found (i ∷ is) h =
    elim (cases_Bool (is_there b found i.task.id)) [
      | inl known ↦ rw known (found_distinct b found is h)
      | inr other ↦
          let apart : list_any (nat_eq i.task.id) (ids b.tasks ++ own_ids found) ≡ false =
          among-swapped i.task.id (ids b.tasks ++ own_ids found) ∙ list_any-append (is_number i.task.id) (ids b.tasks) (own_ids found)
          ∙ ap (λ p. p || list_any (is_number i.task.id) (own_ids found)) (sym (on_ids i.task.id b.tasks))
          ∙ ap (λ p. is_on b i.task.id || p) (sym (on_own i.task.id found)) ∙ other in
          let joined : (ids b.tasks ++ own_ids found) ++ i.task.id ∷ [] ≡ ids b.tasks ++ own_ids (found ++ i ∷ []) =
          append_assoc (ids b.tasks) (own_ids found) (i.task.id ∷ []) ∙ ap (λ xs. ids b.tasks ++ xs) (sym (map-append (λ (j : Incoming). j.task.id) found (i ∷ []))) in
          rw other (found_distinct b (found ++ i ∷ []) is (subst (IsDistinct nat_eq) joined (IsDistinct-push nat_eq_equiv (ids b.tasks ++ own_ids found) i.task.id h apart)))
    ]

pub all_append : {A : Type 0} (P : A → Type 0) (xs ys : List A) → AllByRecursion P xs → AllByRecursion P ys → AllByRecursion P (xs ++ ys)
all_append P [] ys h k = k
all_append P (x ∷ xs) ys h k = (h.0, all_append P xs ys h.1 k)

pub found_all : (P : Incoming → Type 0) (b : Board) (found is : List Incoming) → AllByRecursion P found → AllByRecursion P is → AllByRecursion P (found_new b found is)
found_all P b found [] h all = h
found_all P b found (i ∷ is) h all =
    elim (cases_Bool (is_there b found i.task.id)) [
      | inl known ↦ rw known (found_all P b found is h all.1)
      | inr other ↦ rw other (found_all P b (found ++ i ∷ []) is (all_append P found (i ∷ []) h (all.0, tt)) all.1)
    ]

-- a new template is a template on the board
entered_template : (b : Board) (new : List Incoming) (gs : List Gone) (i : Incoming) → is_new_template i ≡ true → is_template (entered b new (takes b new gs i) i) ≡ true
entered_template b new gs i template =
    let parts = and_true (is_some i.task.recur) (not (is_linked i)) template in
    let plain = not_true (is_linked i) parts.1 in
    rw (takes_none b new gs i plain, plain, parts.0) refl

new_templates : (b : Board) (new : List Incoming) (gs : List Gone) (is : List Incoming) (q : ℕ) → list_any (is_new_template_with q) is ≡ true
    → list_any (is_template_with q) (entered_tasks b new gs is) ≡ true
new_templates b new gs [] q h = absurd (true≢false (sym h))
new_templates b new gs (i ∷ is) q h =
    elim (cases_Bool (is_new_template_with q i)) [
      | inl here ↦
          let parts = and_true (i.task.id == q) (is_new_template i) here in
          rw (parts.0, entered_template b new gs i parts.1) refl
      | inr other ↦
          let later : list_any (is_new_template_with q) is ≡ true = rw other at h in
          or_right (is_template_with q (entered b new (takes b new gs i) i)) _ (new_templates b new (left_by b new gs i) is q later)
    ]

either_true : (p q : Bool) → (p || q) ≡ true → (p ≡ true → q ≡ true) → q ≡ true
either_true true q h f = f refl
either_true false q h f = h

-- the templates of the board and the new ones are its templates then
pub templates_after : (b later : Board) (new : List Incoming) (gs : List Gone) → later.tasks ≡ b.tasks ++ entered_tasks b new gs new → (q : ℕ) → is_parent b new q ≡ true
    → list_any (is_template_with q) later.tasks ≡ true
templates_after b later new gs is q h =
    ap (list_any (is_template_with q)) is ∙ list_any-append (is_template_with q) b.tasks (entered_tasks b new gs new)
    ∙ elim (cases_Bool (list_any (is_template_with q) b.tasks)) [
      | inl old ↦ rw old refl
      | inr other ↦ let fresh : list_any (is_new_template_with q) new ≡ true = rw other at h in or_right (list_any (is_template_with q) b.tasks) _ (new_templates b new gs new q fresh)
    ]

-- c has a template wherever b or the new tasks have one
abbrev pub HasParentsOf : Board → List Incoming → Board → Type 0
HasParentsOf b new c = (q : ℕ) → is_parent b new q ≡ true → list_any (is_template_with q) c.tasks ≡ true

pub parent_after : (b later : Board) (new : List Incoming) (gs : List Gone) (o p : Option ℕ) (taking : Bool) → HasParentsOf b new later → is_taken b new gs o p ≡ taking
    → has_template later (if taking then o else None) ≡ true
parent_after b later new gs o p false all is = refl
parent_after b later new gs None p true all is = refl
parent_after b later new gs (Some q) None true all is = absurd (true≢false (sym is))
parent_after b later new gs (Some q) (Some k) true all is = all q (and_true (is_parent b new q) (is_gone gs q k) is).0

all_without : (P : Gone → Type 0) (id k : ℕ) (gs : List Gone) → AllByRecursion P gs → AllByRecursion P (without_place id k gs)
all_without P id k [] h = h
all_without P id k (g ∷ gs) h =
    elim (cases_Bool (is_gone_at id k g)) [
      | inl here ↦ rw here (all_without P id k gs h.1)
      | inr other ↦ rw other (h.0, all_without P id k gs h.1)
    ]

all_taken : (P : Gone → Type 0) (gs : List Gone) (o p : Option ℕ) (taking : Bool) → AllByRecursion P gs → AllByRecursion P (if taking then without_taken gs o p else gs)
all_taken P gs o p false h = h
all_taken P gs None p true h = h
all_taken P gs (Some q) None true h = h
all_taken P gs (Some q) (Some k) true h = all_without P q k gs h

pub all_left : (P : Gone → Type 0) (b : Board) (new : List Incoming) (gs : List Gone) (is : List Incoming) → AllByRecursion P gs → AllByRecursion P (left_all b new gs is)
all_left P b new gs [] h = h
all_left P b new gs (i ∷ is) h = all_left P b new (left_by b new gs i) is (all_taken P gs i.raw_parent i.raw_imask (takes b new gs i) h)

marked_on : (c : Board) (id k : ℕ) (marks : List ℕ) → list_any (is_template_with id) c.tasks ≡ true → AllByRecursion (IsGoneOn c) (marked_from id k marks)
marked_on c id k [] h = tt
marked_on c id k (m ∷ ms) h = (h, marked_on c id (k + 1) ms h)

mask_on : (c : Board) (i : Incoming) (template : Bool) → (template ≡ true → list_any (is_template_with i.task.id) c.tasks ≡ true)
    → AllByRecursion (IsGoneOn c) (marked_from i.task.id 0 (if template then unwrap_or i.raw_mask [] else []))
mask_on c i true h = marked_on c i.task.id 0 (unwrap_or i.raw_mask []) (h refl)
mask_on c i false h = tt

-- the new gone places are of templates
pub masks_on : (c : Board) (is : List Incoming) → ((q : ℕ) → list_any (is_new_template_with q) is ≡ true → list_any (is_template_with q) c.tasks ≡ true)
    → AllByRecursion (IsGoneOn c) (mask_places is)
masks_on c [] all = tt
masks_on c (i ∷ is) all =
    all_append (IsGoneOn c) (marked_from i.task.id 0 (mask_in i)) (mask_places is)
    (mask_on c i (is_new_template i) (λ template. all i.task.id (or_left (is_new_template_with i.task.id i) _ (rw (eq-eqb i.task.id i.task.id refl, template) refl))))
    (masks_on c is (λ q h. all q (or_right (is_new_template_with q i) _ h)))

-- what a task depends on
pub kept_linked : (b later : Board) (new : List Incoming) → ((q : ℕ) → is_on later q ≡ is_there b new q) → (ds : List ℕ) → lacks_depends later (filter (is_there b new) ds) ≡ false
kept_linked b later new there [] = refl
kept_linked b later new there (d ∷ ds) =
    elim (cases_Bool (is_there b new d)) [
      | inl here ↦ rw (here, there d, here) (kept_linked b later new there ds)
      | inr other ↦ rw other (kept_linked b later new there ds)
    ]

both_false : (p q : Bool) → p ≡ false → q ≡ false → (p || q) ≡ false
both_false false q none h = h
both_false true q none h = absurd (true≢false none)

still_there : (p q : Bool) → not p ≡ false → not (p || q) ≡ false
still_there true q h = refl
still_there false q h = absurd (true≢false h)

pub still_linked : (b later : Board) (new : List Incoming) → ((q : ℕ) → is_on later q ≡ is_there b new q) → (ds : List ℕ) → lacks_depends b ds ≡ false → lacks_depends later ds ≡ false
still_linked b later new there [] h = refl
still_linked b later new there (d ∷ ds) h =
    let parts = or_parts (not (is_on b d)) (lacks_depends b ds) h in
    both_false (not (is_on later d)) (lacks_depends later ds) (ap not (there d) ∙ still_there (is_on b d) (list_any (has_own_id d) new) parts.0) (still_linked b later new there ds parts.1)
