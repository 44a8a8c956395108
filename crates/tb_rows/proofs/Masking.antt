-- A mask stays where no instance and no gone place of its template is changed.
use Rattle.std.proofs.Common.{◌≡◌, ◌⊎◌, ℕ, zero, suc, ◌+◌, ◌<◌, ◌==◌, true, false, cond, List, [], ◌∷◌, ◌++◌, Option, Some, None, map, find, flat_map, get_or, length, refl, sym, ◌∙◌, ap, subst, arith, inl, inr}
use Rattle.std.specs.List.{AllByRecursion, range_with_len}
use Rattle.std.proofs.lemmas.Bool.{cases_Bool, eq-eqb, eqb-true, and_parts}
use Rattle.tb_task.specs.declared.task.Task.{Task}
use Rattle.tb_board.specs.declared.board.Board.{Board}
use Rattle.tb_board.specs.declared.change.Change.{Change}
use Rattle.tb_board.specs.declared.change.Change.TheVariants.{PutTask, AddPerson as NewPerson, SetKey, AddBoard as NewBoard, SetTitle as NewTitle, SetRole, SetGone, TakeGone, SetAhead}
use Rattle.tb_board.specs.declared.gone.Gone.{Gone}
use Rattle.tb_board.specs.Tasks.{ids, place_in as place_among}
use Rattle.tb_board.specs.Changing.{with_ahead, with_task_at, with_title, without_place}
use Rattle.tb_board.specs.InstancePlaces.{instance_places, is_id, place_in}
use Rattle.tb_board.specs.Templates.{count, gone_places, is_gone_at, is_instance_at, mark_at, mark_here, mask}
use Rattle.tb_rows.specs.Rows.{rows_from}
use Rattle.tb_rows.specs.Steps.{changed_templates, gone_template, instance_template, is_among, is_changed, template_place}
use Rattle.tb_rows.proofs.Evolving.{change_on, replay}
use Rattle.tb_rows.proofs.Places.{Matches}
use Rattle.tb_rows.proofs.Staying.{among-append}

-- ---- the instances

-- the same task, or none of the template's instances before and after
abbrev pub IsSameOrOther : ℕ → Task → Task → Type 0
IsSameOrOther id s t = (t ≡ s) ⊎ ((place_in id t ≡ None) × (place_in id s ≡ None))

abbrev pub HasSameInstances : ℕ → ℕ → List Task → List Task → Type 0
HasSameInstances id i ws bs = Matches (λ j s t. IsSameOrOther id s t) (λ j t. place_in id t ≡ None) i ws bs

same_places : (id i : ℕ) (ws bs : List Task) → HasSameInstances id i ws bs → instance_places id bs ≡ instance_places id ws
same_places id i [] [] h = refl
same_places id i [] (b ∷ bs) h = rw h.0 (same_places id (i + 1) [] bs h.1)
same_places id i (a ∷ ws) [] h = absurd h
same_places id i (a ∷ ws) (b ∷ bs) h =
    elim h.0 [
      | inl same ↦ rw (same, same_places id (i + 1) ws bs h.1) refl
      | inr others ↦ rw (others.0, others.1) (same_places id (i + 1) ws bs h.1)
    ]

same_instance : (id i k : ℕ) (ws bs : List Task) → HasSameInstances id i ws bs → find (is_instance_at id k) bs ≡ find (is_instance_at id k) ws
same_instance id i k [] [] h = refl
same_instance id i k [] (b ∷ bs) h = rw h.0 (same_instance id (i + 1) k [] bs h.1)
same_instance id i k (a ∷ ws) [] h = absurd h
same_instance id i k (a ∷ ws) (b ∷ bs) h =
    elim h.0 [
      | inl same ↦ rw (same, same_instance id (i + 1) k ws bs h.1) refl
      | inr others ↦ rw (others.0, others.1) (same_instance id (i + 1) k ws bs h.1)
    ]

-- ---- the gone places

-- a change of board n leaves the gone places of the template
abbrev pub LeavesGone : ℕ → ℕ → Change → Type 0
LeavesGone n id (PutTask m place t) = Unit {0}
LeavesGone n id (NewPerson name key) = Unit {0}
LeavesGone n id (SetKey name key) = Unit {0}
LeavesGone n id (NewBoard m title) = Unit {0}
LeavesGone n id (NewTitle m title) = Unit {0}
LeavesGone n id (SetRole m person role) = Unit {0}
LeavesGone n id (SetGone m g) = (n == m) ≡ true → (g.template == id) ≡ false
LeavesGone n id (TakeGone m x k) = (n == m) ≡ true → (x == id) ≡ false
LeavesGone n id (SetAhead m ahead) = Unit {0}

gone_places-push : (id : ℕ) (gs : List Gone) (g : Gone) → (g.template == id) ≡ false → gone_places id (gs ++ g ∷ []) ≡ gone_places id gs
gone_places-push id [] g other = rw other refl
gone_places-push id (h ∷ gs) g other =
    elim (cases_Bool (h.template == id)) [
      | inl here ↦ rw here (ap (λ l. h.place ∷ l) (gone_places-push id gs g other))
      | inr apart ↦ rw apart (gone_places-push id gs g other)
    ]

find_gone-push : (id k : ℕ) (gs : List Gone) (g : Gone) → (g.template == id) ≡ false → find (is_gone_at id k) (gs ++ g ∷ []) ≡ find (is_gone_at id k) gs
find_gone-push id k [] g other = rw other refl
find_gone-push id k (h ∷ gs) g other =
    elim (cases_Bool (is_gone_at id k h)) [
      | inl here ↦ rw here refl
      | inr apart ↦ rw apart (find_gone-push id k gs g other)
    ]

-- what is taken is of another template
taken_other : (id x k : ℕ) (g : Gone) → (x == id) ≡ false → is_gone_at x k g ≡ true → (g.template == id) ≡ false
taken_other id x k g other taken =
    let own : g.template ≡ x = eqb-true g.template x (and_parts (g.template == x) (g.place == k) taken).0 in
    ap (λ y. y == id) own ∙ other

gone_places-taken : (id x k : ℕ) (gs : List Gone) → (x == id) ≡ false → gone_places id (without_place x k gs) ≡ gone_places id gs
gone_places-taken id x k [] other = refl
gone_places-taken id x k (g ∷ gs) other =
    elim (cases_Bool (is_gone_at x k g)) [
      | inl taken ↦ rw (taken, taken_other id x k g other taken) (gone_places-taken id x k gs other)
      | inr stays ↦ rw (stays, gone_places-taken id x k gs other) refl
    ]

find_gone-taken : (id x k j : ℕ) (gs : List Gone) → (x == id) ≡ false → find (is_gone_at id j) (without_place x k gs) ≡ find (is_gone_at id j) gs
find_gone-taken id x k j [] other = refl
find_gone-taken id x k j (g ∷ gs) other =
    elim (cases_Bool (is_gone_at x k g)) [
      | inl taken ↦ rw (taken, taken_other id x k g other taken) (find_gone-taken id x k j gs other)
      | inr stays ↦ rw (stays, find_gone-taken id x k j gs other) refl
    ]

-- the gone places of the template are as they were
record HasSameGone (id : ℕ) (a b : Board) : Type 0 where
  places : gone_places id b.gone ≡ gone_places id a.gone
  at : (k : ℕ) → find (is_gone_at id k) b.gone ≡ find (is_gone_at id k) a.gone

gone_same : (id : ℕ) (a b : Board) → b.gone ≡ a.gone → HasSameGone id a b
gone_same id a b same = record { places = ap (gone_places id) same; at = λ k. ap (find (is_gone_at id k)) same }

one_gone : (n id : ℕ) (c : Change) (a : Board) → LeavesGone n id c → HasSameGone id a (change_on n c a)
one_gone n id (PutTask m place t) a leaves = gone_same id a _ (elim (n == m) as (λ q. (cond q (with_task_at place t a) a).gone ≡ a.gone) [ true ↦ refl | false ↦ refl ])
one_gone n id (NewPerson name key) a leaves = gone_same id a a refl
one_gone n id (SetKey name key) a leaves = gone_same id a a refl
one_gone n id (NewBoard m title) a leaves = gone_same id a a refl
one_gone n id (NewTitle m title) a leaves =
    elim (cases_Bool (n == m)) [
      | inl here ↦ rw here (gone_same id a (with_title title a) refl)
      | inr other ↦ rw other (gone_same id a a refl)
    ]
one_gone n id (SetRole m person role) a leaves = gone_same id a a refl
one_gone n id (SetGone m g) a leaves =
    elim (cases_Bool (n == m)) [
      | inl here ↦ rw here (record { places = gone_places-push id a.gone g (leaves here); at = λ k. find_gone-push id k a.gone g (leaves here) })
      | inr other ↦ rw other (gone_same id a a refl)
    ]
one_gone n id (TakeGone m x k) a leaves =
    elim (cases_Bool (n == m)) [
      | inl here ↦ rw here (record { places = gone_places-taken id x k a.gone (leaves here); at = λ j. find_gone-taken id x k j a.gone (leaves here) })
      | inr other ↦ rw other (gone_same id a a refl)
    ]
one_gone n id (SetAhead m ahead) a leaves =
    elim (cases_Bool (n == m)) [
      | inl here ↦ rw here (gone_same id a (with_ahead ahead a) refl)
      | inr other ↦ rw other (gone_same id a a refl)
    ]

all_gone : (n id : ℕ) (cs : List Change) (a : Board) → AllByRecursion (LeavesGone n id) cs → HasSameGone id a (replay n cs a)
all_gone n id [] a leaves = gone_same id a a refl
all_gone n id (c ∷ cs) a leaves =
    let first = one_gone n id c a leaves.0 in
    let rest = all_gone n id cs (change_on n c a) leaves.1 in
    record { places = rest.places ∙ first.places; at = λ k. rest.at k ∙ first.at k }

-- ---- the mask

marks_same : (a b : Board) (id k : ℕ) (ns : List ℕ) → ((k : ℕ) → mark_at b id k ≡ mark_at a id k) → map (mark_at b id) ns ≡ map (mark_at a id) ns
marks_same a b id k [] each = refl
marks_same a b id k (n ∷ ns) each = rw (each n, marks_same a b id k ns each) refl

mask_same : (id : ℕ) (a b : Board) → HasSameInstances id 0 a.tasks b.tasks → HasSameGone id a b → mask b id ≡ mask a id
mask_same id a b instances gone =
    let size : count b id ≡ count a id =
    ap (λ l. length (l ++ instance_places id b.tasks)) gone.places ∙ ap (λ l. length (gone_places id a.gone ++ l)) (same_places id 0 a.tasks b.tasks instances) in
    ap (λ n. map (mark_at b id) (range_with_len 0 n)) size
    ∙ marks_same a b id 0 (range_with_len 0 (count a id))
    (λ k. ap (λ o. mark_here o (find (is_gone_at id k) b.gone)) (same_instance id 0 k a.tasks b.tasks instances) ∙ ap (mark_here (find (is_instance_at id k) a.tasks)) (gone.at k))

-- ---- templates that are not among those changed

not_itself : (i : ℕ) → is_among (i ∷ []) i ≡ false → ⊥
not_itself i out = let here = eq-eqb i i refl in let no : true ≡ false = rw here at out in cc

-- another template has another identifier
other_template : (b : Board) (id i x : ℕ) → place_among (ids b.tasks) id ≡ Some i → is_among (template_place b (Some x)) i ≡ false → (x == id) ≡ false
other_template b id i x at out =
    elim (cases_Bool (x == id)) [
      | inl same ↦
          let there : place_among (ids b.tasks) x ≡ Some i = ap (place_among (ids b.tasks)) (eqb-true x id same) ∙ at in
          absurd (not_itself i (rw there at out))
      | inr other ↦ other
    ]

parent_off : (b : Board) (id i : ℕ) (parent : Option ℕ) → place_among (ids b.tasks) id ≡ Some i → is_among (template_place b parent) i ≡ false → is_id id parent ≡ false
parent_off b id i None at out = refl
parent_off b id i (Some x) at out = other_template b id i x at out

pub no_place : (id : ℕ) (t : Task) → is_id id t.parent ≡ false → place_in id t ≡ None
no_place id t other = rw other refl

rows_out : {A : Type 0} (f : ℕ → A → List ℕ) (n : ℕ) (ws : List A) (i : ℕ) → is_among (rows_from f n ws) i ≡ false
    → (j p : ℕ) (a : A) → p ≡ n + j → j < length ws → a ≡ get_or ws j a → is_among (f p a) i ≡ false
rows_out f n [] i out j p a e within at = absurd (omega arith)
rows_out f n (x ∷ xs) i out zero p a e within at =
    let parts = among-append (f n x) (rows_from f (n + 1) xs) i out in
    let same : p ≡ n = omega (arith, e) in
    rw (same, at) parts.0
rows_out f n (x ∷ xs) i out (suc j) p a e within at =
    let parts = among-append (f n x) (rows_from f (n + 1) xs) i out in
    rows_out f (n + 1) xs i parts.1 j p a (omega (arith, e)) (omega (arith, within)) at

-- a task that is changed is no instance of the template
pub changed_other : (b : Board) (old : ℕ) (put : List ℕ) (cs : List Change) (id i : ℕ) → place_among (ids b.tasks) id ≡ Some i → is_among (changed_templates b old put cs) i ≡ false
    → (j : ℕ) (t : Task) → j < length b.tasks → t ≡ get_or b.tasks j t → is_changed old put j ≡ true → is_id id t.parent ≡ false
changed_other b old put cs id i at out j t within here changed =
    let parts = among-append (rows_from (instance_template b old put) 0 b.tasks) (flat_map (gone_template b) cs) i out in
    let own : is_among (instance_template b old put j t) i ≡ false = rows_out (instance_template b old put) 0 b.tasks i parts.0 j j t (omega arith) within here in
    parent_off b id i t.parent at (rw changed at own)

gone_out : (b : Board) (id i : ℕ) (cs : List Change) → place_among (ids b.tasks) id ≡ Some i → is_among (flat_map (gone_template b) cs) i ≡ false → AllByRecursion (LeavesGone b.number id) cs
gone_out b id i [] at out = tt
gone_out b id i (c ∷ cs) at out =
    let parts = among-append (gone_template b c) (flat_map (gone_template b) cs) i out in
    (one b id i c at parts.0, gone_out b id i cs at parts.1)
  where
    one : (b : Board) (id i : ℕ) (c : Change) → place_among (ids b.tasks) id ≡ Some i → is_among (gone_template b c) i ≡ false → LeavesGone b.number id c
    one b id i (PutTask m place t) at out = tt
    one b id i (NewPerson name key) at out = tt
    one b id i (SetKey name key) at out = tt
    one b id i (NewBoard m title) at out = tt
    one b id i (NewTitle m title) at out = tt
    one b id i (SetRole m person role) at out = tt
    one b id i (SetGone m g) at out = λ here. other_template b id i g.template at (rw here at out)
    one b id i (TakeGone m x k) at out = λ here. other_template b id i x at (rw here at out)
    one b id i (SetAhead m ahead) at out = tt

-- the mask of a template that is not among those changed
pub mask_stays : (a b : Board) (old : ℕ) (put : List ℕ) (cs : List Change) (id i : ℕ) → b ≡ replay b.number cs a → place_among (ids b.tasks) id ≡ Some i
    → is_among (changed_templates b old put cs) i ≡ false → HasSameInstances id 0 a.tasks b.tasks → mask b id ≡ mask a id
mask_stays a b old put cs id i made at out instances =
    let parts = among-append (rows_from (instance_template b old put) 0 b.tasks) (flat_map (gone_template b) cs) i out in
    mask_same id a b instances
    (subst (HasSameGone id a) (sym made) (all_gone b.number id cs a (gone_out b id i cs at parts.1)))
