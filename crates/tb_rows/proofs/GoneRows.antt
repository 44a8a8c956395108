-- The rows of gone places before and after changes.
use Rattle.std.proofs.Common.{◌≡◌, ℕ, ◌+◌, ◌==◌, Bool, true, false, not, ◌&&◌, cond, List, [], ◌∷◌, ◌++◌, Option, Some, None, is_some, map, filter, flat_map, get_or, refl, sym, ◌∙◌, ap, subst, arith, inl, inr, IsPermutation}
use Rattle.std.specs.List.{AllByRecursion, list_any, position_from}
use Rattle.std.proofs.lemmas.Bool.{cases_Bool, eq-eqb, eqb-true, ne_eqb, and_parts, cases_eq}
use Rattle.std.proofs.lemmas.Iterator.Adapters.{position_from-zero}
use Rattle.std.proofs.lemmas.List.{append-nil, append_assoc, map-append}
use Rattle.std.proofs.lemmas.List.Elements.{filter-append}
use Rattle.std.proofs.lemmas.List.Sorted.{IsPermutation-sym, IsPermutation-middle}
use Rattle.sqlite_trees.proofs.ListLemmas.{all_weaker, filter_all, IsPermutation-same}
use Rattle.tb_board.specs.declared.board.Board.{Board}
use Rattle.tb_board.specs.declared.change.Change.{Change}
use Rattle.tb_board.specs.declared.change.Change.TheVariants.{PutTask, AddPerson as NewPerson, SetKey, AddBoard as NewBoard, SetTitle as NewTitle, SetRole, SetGone, TakeGone, SetAhead}
use Rattle.tb_board.specs.declared.gone.Gone.{Gone}
use Rattle.tb_task.specs.declared.task.Task.{Task}
use Rattle.tb_board.specs.Tasks.{has_id, ids, place_in}
use Rattle.tb_board.specs.Changing.{with_task_at, without_place}
use Rattle.tb_board.specs.Instances.{IsGoneOn}
use Rattle.tb_board.specs.Templates.{is_gone_at}
use Rattle.tb_board.proofs.Fresh.{on_ids}
use Rattle.tb_board.proofs.Relinking.{place_holds}
use Rattle.tb_sql_tables.specs.declared.rows.GoneRow.{GoneRow}
use Rattle.tb_sql.specs.Changes.{is_gone}
use Rattle.tb_board.specs.Extends.{ExtendsTask, IsFrontOf}
use Rattle.tb_rows.specs.Rows.{board_gone, gone_row}
use Rattle.tb_rows.specs.Steps.{gone_added, gone_changes, gone_removed}
use Rattle.tb_rows.proofs.Evolving.{change_on, replay}
use Rattle.tb_rows.proofs.Places.{IsElsewhere}
use Rattle.tb_rows.proofs.Staying.{place_of-stays, place_stays, template_on}
use Rattle.tb_rows.proofs.Tables.{gone_by, gone_unordered}
use Rattle.tb_rows.proofs.Turning.{inert_none, Turns, turns_none, turns_twice}

-- whether the template of a gone place is on the board
abbrev pub is_shown : Board → Gone → Bool
is_shown b g = is_some (place_in (ids b.tasks) g.template)

abbrev pub shown_rows : Board → List Gone → List GoneRow
shown_rows b gs = map (gone_row b) (filter (is_shown b) gs)

abbrev pub IsGoneElsewhere : ℕ → GoneRow → Type 0
IsGoneElsewhere n = IsElsewhere (λ (r : GoneRow). r.board) n

-- ---- a place more

shown_last : (b : Board) (gs : List Gone) (g : Gone) → is_shown b g ≡ true → shown_rows b (gs ++ g ∷ []) ≡ shown_rows b gs ++ gone_row b g ∷ []
shown_last b gs g on = ap (map (gone_row b)) (filter-append (is_shown b) gs (g ∷ []) ∙ rw on refl) ∙ map-append (gone_row b) (filter (is_shown b) gs) (g ∷ [])

not_shown_last : (b : Board) (gs : List Gone) (g : Gone) → is_shown b g ≡ false → shown_rows b (gs ++ g ∷ []) ≡ shown_rows b gs
not_shown_last b gs g off = ap (map (gone_row b)) (filter-append (is_shown b) gs (g ∷ []) ∙ rw off (append-nil (filter (is_shown b) gs)))

last_added : {R : Type 0} (rows : List R) (r : R) (rest : List R) → IsPermutation (r ∷ (rows ++ rest)) ((rows ++ r ∷ []) ++ rest)
last_added rows r rest = subst (IsPermutation (r ∷ (rows ++ rest))) (sym (append_assoc rows (r ∷ []) rest)) (IsPermutation-sym _ _ (IsPermutation-middle rows r rest))

gone_set : (b : Board) (gs : List Gone) (g : Gone) (o : Option ℕ) → place_in (ids b.tasks) g.template ≡ o
    → Turns gone_by (IsGoneElsewhere b.number) (gone_added b g o) (shown_rows b gs) (shown_rows b (gs ++ g ∷ []))
gone_set b gs g None at = rw (not_shown_last b gs g (ap is_some at)) (turns_none gone_by _ [] (shown_rows b gs) (inert_none gone_by))
gone_set b gs g (Some p) at =
    rw (shown_last b gs g (ap is_some at)) (record { turned = λ rest apart. last_added (shown_rows b gs) (gone_row b g) rest })

-- ---- a place less

not_shown_taken : (b : Board) (id k : ℕ) (gs : List Gone) → place_in (ids b.tasks) id ≡ None → filter (is_shown b) (without_place id k gs) ≡ filter (is_shown b) gs
not_shown_taken b id k [] none = refl
not_shown_taken b id k (g ∷ gs) none =
    elim (cases_Bool (is_gone_at id k g)) [
      | inl taken ↦
          let own : g.template ≡ id = eqb-true g.template id (and_parts (g.template == id) (g.place == k) taken).0 in
          let off : is_shown b g ≡ false = ap (λ x. is_some (place_in (ids b.tasks) x)) own ∙ ap is_some none in
          rw (taken, off) (not_shown_taken b id k gs none)
      | inr stays ↦ rw (stays, not_shown_taken b id k gs none) refl
    ]

same_test : (b : Board) (x id q p : ℕ) → place_in (ids b.tasks) x ≡ Some q → place_in (ids b.tasks) id ≡ Some p → (q + 1 == p + 1) ≡ (x == id)
same_test b x id q p at_x at_id =
    elim (cases_eq x id) [
      | inl same ↦
          let both : Some q ≡ Some p = sym at_x ∙ ap (place_in (ids b.tasks)) same ∙ at_id in
          let places : q ≡ p = cc in
          eq-eqb (q + 1) (p + 1) (ap (λ y. y + 1) places) ∙ sym (eq-eqb x id same)
      | inr other ↦
          ne_eqb (q + 1) (p + 1) (λ e.
          let places : q ≡ p = omega (arith, e) in
          other (sym (place_holds (ids b.tasks) x q at_x) ∙ ap (λ y. get_or (ids b.tasks) y 0) places ∙ place_holds (ids b.tasks) id p at_id))
          ∙ sym (ne_eqb x id other)
    ]

is_row : (b : Board) (id k p : ℕ) (g : Gone) → is_shown b g ≡ true → place_in (ids b.tasks) id ≡ Some p → is_gone b.number (p + 1) k (gone_row b g) ≡ is_gone_at id k g
is_row b id k p g on at = go (place_in (ids b.tasks) g.template) refl on
  where
    go : (o : Option ℕ) → place_in (ids b.tasks) g.template ≡ o → is_some o ≡ true → is_gone b.number (p + 1) k (gone_row b g) ≡ is_gone_at id k g
    go None at_g on = absurd (let no : false ≡ true = on in cc)
    go (Some q) at_g on = rw (at_g, eq-eqb b.number b.number refl, same_test b g.template id q p at_g at) refl

shown_taken : (b : Board) (id k p : ℕ) (gs : List Gone) → place_in (ids b.tasks) id ≡ Some p
    → filter (λ r. not (is_gone b.number (p + 1) k r)) (shown_rows b gs) ≡ shown_rows b (without_place id k gs)
shown_taken b id k p [] at = refl
shown_taken b id k p (g ∷ gs) at =
    elim (cases_Bool (is_shown b g)) [
      | inl on ↦ elim (cases_Bool (is_gone_at id k g)) [
        | inl taken ↦ let row : is_gone b.number (p + 1) k (gone_row b g) ≡ true = is_row b id k p g on at ∙ taken in rw (on, taken, row) (shown_taken b id k p gs at)
        | inr stays ↦
            let row : is_gone b.number (p + 1) k (gone_row b g) ≡ false = is_row b id k p g on at ∙ stays in
            rw (on, stays, row, on) (ap (λ l. gone_row b g ∷ l) (shown_taken b id k p gs at))
      ]
      | inr off ↦ elim (cases_Bool (is_gone_at id k g)) [
        | inl taken ↦ rw (off, taken) (shown_taken b id k p gs at)
        | inr stays ↦ rw (off, stays, off) (shown_taken b id k p gs at)
      ]
    ]

others_stay : (n p k : ℕ) (rest : List GoneRow) → AllByRecursion (IsGoneElsewhere n) rest → filter (λ r. not (is_gone n p k r)) rest ≡ rest
others_stay n p k rest apart =
    filter_all _ rest (all_weaker _ _ (λ (r : GoneRow) off. ap (λ q. not (q && ((r.template == p) && (r.imask == k)))) (ne_eqb r.board n off)) rest apart)

gone_taken : (b : Board) (gs : List Gone) (id k : ℕ) (o : Option ℕ) → place_in (ids b.tasks) id ≡ o
    → Turns gone_by (IsGoneElsewhere b.number) (gone_removed b k o) (shown_rows b gs) (shown_rows b (without_place id k gs))
gone_taken b gs id k None at =
    rw (ap (map (gone_row b)) (not_shown_taken b id k gs at)) (turns_none gone_by _ [] (shown_rows b gs) (inert_none gone_by))
gone_taken b gs id k (Some p) at =
    record {
      turned = λ rest apart. IsPermutation-same _ _
          (filter-append _ (shown_rows b gs) rest ∙ ap (λ l. l ++ filter (λ r. not (is_gone b.number (p + 1) k r)) rest) (shown_taken b id k p gs at)
          ∙ ap (λ l. shown_rows b (without_place id k gs) ++ l) (others_stay b.number (p + 1) k rest apart));
    }

-- ---- all changes of a board

unshown : (n : ℕ) (b : Board) (rows : List GoneRow) (q : Bool) (x y : Board) → y.gone ≡ x.gone → rows ≡ shown_rows b x.gone → rows ≡ shown_rows b (cond q y x).gone
unshown n b rows true x y same is = is ∙ ap (shown_rows b) (sym same)
unshown n b rows false x y same is = is

one_change : (b x : Board) (c : Change) → Turns gone_by (IsGoneElsewhere b.number) (gone_changes b c) (shown_rows b x.gone) (shown_rows b (change_on b.number c x).gone)
one_change b x (PutTask m place t) =
    rw (← unshown b.number b (shown_rows b x.gone) (b.number == m) x (with_task_at place t x) refl refl) (turns_none gone_by _ [] (shown_rows b x.gone) (inert_none gone_by))
one_change b x (NewPerson name key) = turns_none gone_by _ [] (shown_rows b x.gone) (inert_none gone_by)
one_change b x (SetKey name key) = turns_none gone_by _ [] (shown_rows b x.gone) (inert_none gone_by)
one_change b x (NewBoard m title) = turns_none gone_by _ [] (shown_rows b x.gone) (inert_none gone_by)
one_change b x (NewTitle m title) =
    elim (cases_Bool (b.number == m)) [
      | inl here ↦ rw here (turns_none gone_by _ [] (shown_rows b x.gone) (inert_none gone_by))
      | inr other ↦ rw other (turns_none gone_by _ [] (shown_rows b x.gone) (inert_none gone_by))
    ]
one_change b x (SetRole m person role) = turns_none gone_by _ [] (shown_rows b x.gone) (inert_none gone_by)
one_change b x (SetGone m g) =
    elim (cases_Bool (b.number == m)) [
      | inl here ↦ rw here (gone_set b x.gone g (place_in (ids b.tasks) g.template) refl)
      | inr other ↦ rw other (turns_none gone_by _ [] (shown_rows b x.gone) (inert_none gone_by))
    ]
one_change b x (TakeGone m id k) =
    elim (cases_Bool (b.number == m)) [
      | inl here ↦ rw here (gone_taken b x.gone id k (place_in (ids b.tasks) id) refl)
      | inr other ↦ rw other (turns_none gone_by _ [] (shown_rows b x.gone) (inert_none gone_by))
    ]
one_change b x (SetAhead m ahead) =
    elim (cases_Bool (b.number == m)) [
      | inl here ↦ rw here (turns_none gone_by _ [] (shown_rows b x.gone) (inert_none gone_by))
      | inr other ↦ rw other (turns_none gone_by _ [] (shown_rows b x.gone) (inert_none gone_by))
    ]

all_changes : (b x : Board) (cs : List Change) → Turns gone_by (IsGoneElsewhere b.number) (flat_map (gone_changes b) cs) (shown_rows b x.gone) (shown_rows b (replay b.number cs x).gone)
all_changes b x [] = turns_none gone_by _ [] (shown_rows b x.gone) (inert_none gone_by)
all_changes b x (c ∷ cs) =
    turns_twice gone_by gone_unordered _ (gone_changes b c) (flat_map (gone_changes b) cs) (shown_rows b x.gone) (shown_rows b (change_on b.number c x).gone)
    (shown_rows b (replay b.number cs (change_on b.number c x)).gone) (one_change b x c) (all_changes b (change_on b.number c x) cs)

-- ---- on good boards all gone places are shown

place_there : (id n : ℕ) (xs : List ℕ) → list_any (λ x. x == id) xs ≡ true → is_some (position_from (λ x. x == id) n xs) ≡ true
place_there id n [] on = absurd (let no : false ≡ true = on in cc)
place_there id n (x ∷ xs) on =
    elim (cases_Bool (x == id)) [
      | inl here ↦ rw here refl
      | inr other ↦ let rest : list_any (λ x. x == id) xs ≡ true = rw other at on in rw other (place_there id (n + 1) xs rest)
    ]

pub is_there : (ts : List Task) (id : ℕ) → list_any (has_id id) ts ≡ true → is_some (place_in (ids ts) id) ≡ true
is_there ts id on = ap is_some (position_from-zero (λ x. x == id) (ids ts)) ∙ place_there id 0 (ids ts) (sym (on_ids id ts) ∙ on)

all_shown : (b : Board) (gs : List Gone) → AllByRecursion (IsGoneOn b) gs → shown_rows b gs ≡ map (gone_row b) gs
all_shown b [] on = refl
all_shown b (g ∷ gs) on = rw (is_there b.tasks g.template (template_on g.template b.tasks on.0), all_shown b gs on.1) refl

shown_as_before : (a b : Board) (gs : List Gone) → b.number ≡ a.number → IsFrontOf ExtendsTask a.tasks b.tasks → AllByRecursion (IsGoneOn a) gs → map (gone_row b) gs ≡ map (gone_row a) gs
shown_as_before a b [] number front on = refl
shown_as_before a b (g ∷ gs) number front on =
    rw (number, place_of-stays a.tasks b.tasks g.template front (template_on g.template a.tasks on.0), shown_as_before a b gs number front on.1) refl

still_on : (a b : Board) (gs : List Gone) → IsFrontOf ExtendsTask a.tasks b.tasks → AllByRecursion (IsGoneOn a) gs → shown_rows b gs ≡ map (gone_row b) gs
still_on a b [] front on = refl
still_on a b (g ∷ gs) front on =
    let there = template_on g.template a.tasks on.0 in
    let place : is_some (place_in (ids b.tasks) g.template) ≡ true = ap is_some (place_stays a.tasks b.tasks g.template front there) ∙ is_there a.tasks g.template there in
    rw (place, still_on a b gs front on.1) refl

pub gone_turns : (a b : Board) (cs : List Change) → b.number ≡ a.number → IsFrontOf ExtendsTask a.tasks b.tasks → AllByRecursion (IsGoneOn a) a.gone → AllByRecursion (IsGoneOn b) b.gone
    → b ≡ replay b.number cs a → Turns gone_by (IsGoneElsewhere b.number) (flat_map (gone_changes b) cs) (board_gone a) (board_gone b)
gone_turns a b cs number front on_a on_b made =
    subst (λ rows. Turns gone_by (IsGoneElsewhere b.number) (flat_map (gone_changes b) cs) rows (board_gone b)) (still_on a b a.gone front on_a ∙ shown_as_before a b a.gone number front on_a)
    (subst (λ rows. Turns gone_by (IsGoneElsewhere b.number) (flat_map (gone_changes b) cs) (shown_rows b a.gone) rows) (ap (λ (x : Board). shown_rows b x.gone) (sym made) ∙ all_shown b b.gone on_b)
    (all_changes b a cs))
